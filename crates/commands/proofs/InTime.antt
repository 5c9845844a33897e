-- A COMMAND WITH k AHEAD OF IT HAS ENDED AFTER AT MOST 24 × (k + 1) TICKS, in whatever order other calls come between.
-- One number falls at every tick and never rises: the ticks that the command can still wait. Assumes nothing.
use Prim.Native.Nat.{ℕ, ◌+◌, ◌*◌, ◌≤◌, ◌<◌}
use native.Mathlib.Omega.{arith}
use mathlib.Core.Path.{◌≡◌, refl, ap, ◌∙◌}
use mathlib.Core.Bool.{Bool, true, false, cond}
use mathlib.Core.Option.{Option, none, some}
use mathlib.Core.List.{List, [], ◌∷◌}
use lib.ListN.{length, length-append, length-map}
use Rattle.commands.specs.declared.Slot.{Slot}
use Rattle.commands.specs.Commands.{flagged, waiting, waiting_in, sound, Answer}
use Rattle.commands.specs.Runs.{Call, take, called, answers, slots_after, is_tick, ticks_in, line, moved, place_after}
use Rattle.commands.specs.Runs.{ends_by, ticks_by, left}
use Rattle.commands.proofs.Form.{Waits, sound_waits}
use Rattle.commands.proofs.Step.{Step, stays, counts, repeats, empties, moves, begins, joins, going_out, step}
use Rattle.commands.proofs.Kept.{kept, run_kept}
use Rattle.commands.proofs.Lost.{way_ends, take_last}
use Rattle.commands.proofs.Follow.{moved_falls, place_then, place_holds}

one_tick : (c : Call) → ticks_by c ≤ 1
one_tick c = go (is_tick c)
  where
    go : (t : Bool) → cond t 1 0 ≤ 1
    go true = omega arith
    go false = omega arith

no_tick : {A : Type 0} (c : Call) (ws : List A) → (is_tick c ≡ true → ws ≡ []) → 0 < length ws → ticks_by c ≡ 0
no_tick c ws h w = go (is_tick c) refl
  where
    go : (t : Bool) → is_tick c ≡ t → cond {A = ℕ} t 1 0 ≡ 0
    go true e = absurd (omega (arith, ap length (h e)))
    go false e = refl

step_left : {c : Call} {ws next : List Slot} {a : Answer} → Step c ws a next → Waits ws → (k j : ℕ) → k < length ws
    → j + ends_by a ≡ k → left next j + ticks_by c ≤ left ws k
unfolding is_tick
step_left (stays {c} {ws} n other taken idle) w k j h e = omega (arith, no_tick c ws idle (omega arith))
step_left (counts early) w k j h e = omega arith
step_left (repeats {c} taken few) w k j h e = omega (arith, one_tick c)
step_left (empties {c} {e = way} taken is) w k j h e = omega (arith, rw (way_ends way is) at e)
step_left (moves {c} {e = way} taken is) w k j h e = omega (arith, one_tick c, rw (way_ends way is) at e)
step_left begins w k j h e = omega arith
step_left joins w k j h e = omega arith

-- IT FALLS AT EVERY TICK by one or more, and rises at no call
pub left_falls : (c : Call) (xs : List Slot) (k j : ℕ) → sound xs ≡ true → k < waiting xs
    → moved (called c xs).answer (some k) ≡ some j
    → left (waiting_in (called c xs).slots) j + ticks_by c ≤ left (waiting_in xs) k
left_falls c xs k j h w m =
    step_left (step c xs h) (sound_waits xs h) k j w (moved_falls (called c xs).answer k j m)

-- so a run has no more ticks than are left
left_run : (cs : List Call) (xs : List Slot) (k j : ℕ) → sound xs ≡ true → k < waiting xs
    → place_after (answers cs xs) (some k) ≡ some j
    → left (waiting_in (slots_after cs xs)) j + ticks_in cs ≤ left (waiting_in xs) k
unfolding answers slots_after ticks_in place_after
left_run [] xs k j h w p = let e : k ≡ j = cc in omega arith
left_run (c ∷ cs) xs k j h w p =
    let next = (called c xs).slots in
    let x = place_then (called c xs).answer (answers cs next) k j p in
    let here = (place_holds (c ∷ []) xs k x.0 h w x.1).waits in
    omega (arith, left_falls c xs k x.0 h w x.1, left_run cs next x.0 j (kept c xs h) here x.2)

-- a command that waits has a tick left, and at most 24 for itself and for each one ahead
some_left : (ws : List Slot) (k : ℕ) → Waits ws → k < length ws → (1 ≤ left ws k) × (left ws k ≤ 24 * (k + 1))
some_left [] k w h = absurd (omega arith)
some_left (s ∷ t) k w h = (omega arith, omega arith)

-- IN TIME: with k ahead of it, a command has ended after 24 × (k + 1) ticks
pub in_time : (xs : List Slot) (cs : List Call) (k : ℕ) → sound xs ≡ true → k < waiting xs
    → 24 * (k + 1) ≤ ticks_in cs → place_after (answers cs xs) (some k) ≡ none
in_time xs cs k h w enough = go (place_after (answers cs xs) (some k)) refl
  where
    go : (p : Option ℕ) → place_after (answers cs xs) (some k) ≡ p → p ≡ none
    go none e = refl
    go (some j) e =
        let last = slots_after cs xs in
        let before = some_left (waiting_in xs) k (sound_waits xs h) w in
        let there = (place_holds cs xs k j h w e).waits in
        let after = some_left (waiting_in last) j (sound_waits last (run_kept cs xs h)) there in
        absurd (omega (arith, left_run cs xs k j h w e))

-- so a command has that was taken with so many waiting
pub taken_in_time : (m : List ℕ) (xs : List Slot) (cs : List Call) → sound xs ≡ true
    → (called (take m) xs).answer.number ≡ 0 → 24 * (waiting xs + 1) ≤ ticks_in cs
    → place_after (answers cs (called (take m) xs).slots) (some (waiting xs)) ≡ none
taken_in_time m xs cs h number enough =
    let next = (called (take m) xs).slots in
    let last : waiting xs < waiting next =
    omega (
      arith,
      ap length (take_last m xs h number) ∙ length-append (line xs) (flagged m ∷ []),
      length-map (waiting_in xs) going_out,
      length-map (waiting_in next) going_out,
    ) in
    in_time next cs (waiting xs) (kept (take m) xs h) last enough
