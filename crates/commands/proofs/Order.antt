-- OLDEST FIRST, ONE OUTSTANDING: what goes out is the oldest command that has not ended; it goes out when it becomes
-- the front, and at most four times; none behind it has gone out. Assumes nothing.
use Prim.Native.Nat.{ℕ, zero, suc, ◌+◌, ◌≤◌}
use native.Mathlib.Omega.{arith}
use mathlib.Core.Path.{◌≡◌, refl, sym, ap, ◌∙◌}
use mathlib.Core.Bool.{true}
use mathlib.Core.Option.{Option, none, some}
use mathlib.Core.List.{List, [], ◌∷◌, ◌++◌, map}
use mathlib.Core.Logic.{◌⊎◌, inl, inr}
use lib.ListN.{length, get_or, drop, take as first}
use lib.Seq.{take-append_seam, get_or-drop}
use borrow.Author.Tests.{eq-eqb, ne_eqb}
use Rattle.commands.specs.declared.Slot.{Slot}
use Rattle.commands.specs.Commands.{those, waiting, waiting_in, sound, Answer, says, quiet, padded, sent_once}
use Rattle.commands.specs.Commands.{slot_of}
use Rattle.commands.specs.Runs.{Call, called, empty, answers, slots_after, taken_in, ends_in, line, moved}
use Rattle.commands.specs.Runs.{place_after, went_out, sendings, ends_by, sent_in, Each}
use Rattle.commands.proofs.Flag.{held_length}
use Rattle.commands.proofs.Form.{Behind, Waits, sound_waits}
use Rattle.commands.proofs.Step.{Step, stays, counts, repeats, empties, moves, begins, joins, going_out, step}
use Rattle.commands.proofs.Kept.{kept, run_kept, empty_sound}
use Rattle.commands.proofs.Lost.{way_ends, line_after}
use Rattle.commands.proofs.Follow.{moved_falls, place_then, place_falls}

-- ---- what goes out

-- one call more
slots_more : (cs : List Call) (c : Call) (xs : List Slot)
    → slots_after (cs ++ (c ∷ [])) xs ≡ (called c (slots_after cs xs)).slots
unfolding slots_after
slots_more [] c xs = refl
slots_more (d ∷ cs) c xs = slots_more cs c (called d xs).slots

-- a message in an array is found again
padded_message : (m : List ℕ) → first (length m) (padded m) ≡ m
padded_message m = take-append_seam m _

step_front : {c : Call} {ws next : List Slot} {a : Answer} → Step c ws a next → (a.length ≡ 0 → ⊥)
    → first 1 (map going_out next) ≡ first a.length a.message ∷ []
step_front (stays n other taken idle) h = absurd (h refl)
step_front (counts early) h = absurd (h refl)
step_front (repeats {s = s} taken few) h = ap (λ m. m ∷ []) (sym (padded_message (going_out s)))
step_front (empties taken way) h = absurd (h refl)
step_front (moves {u = u} taken way) h = ap (λ m. m ∷ []) (sym (padded_message (going_out u)))
step_front (begins {m}) h = ap (λ m. m ∷ []) (sym (padded_message (going_out (slot_of m))))
step_front joins h = absurd (h refl)

-- WHAT GOES OUT IS THE OLDEST: of the commands that waited and were taken, the first that has not ended
pub oldest_of_all : (cs : List Call) (c : Call) (xs : List Slot) → sound xs ≡ true
    → let a = (called c (slots_after cs xs)).answer in
    let said = answers (cs ++ (c ∷ [])) xs in
    (a.length ≡ 0 → ⊥)
    → first 1 (drop (ends_in said) (line xs ++ taken_in (cs ++ (c ∷ [])) said)) ≡ first a.length a.message ∷ []
oldest_of_all cs c xs h out =
    ap (first 1) (sym (line_after (cs ++ (c ∷ [])) xs h).rest)
    ∙ ap (λ l. first 1 (line l)) (slots_more cs c xs)
    ∙ step_front (step c (slots_after cs xs) (run_kept cs xs h)) out

-- from empty slots on: of the commands taken
pub oldest_first_lem : (cs : List Call) (c : Call)
    → let a = (called c (slots_after cs empty)).answer in
    let said = answers (cs ++ (c ∷ [])) empty in
    (a.length ≡ 0 → ⊥)
    → first 1 (drop (ends_in said) (taken_in (cs ++ (c ∷ [])) said)) ≡ first a.length a.message ∷ []
unfolding those
oldest_first_lem cs c out = oldest_of_all cs c empty empty_sound out

-- ---- when it goes out

step_goes : {c : Call} {ws next : List Slot} {a : Answer} → Step c ws a next → Waits next
    → (a.ended ≡ 0 → ⊥) ⊎ (length ws ≡ 0) → (length next ≡ 0 → ⊥) → 1 ≤ a.length
step_goes (stays n other taken idle) w (inl over) left = absurd (over refl)
step_goes (stays n other taken idle) w (inr bare) left = absurd (left bare)
step_goes (counts early) w (inl over) left = absurd (over refl)
step_goes (counts early) w (inr bare) left = absurd (omega arith)
step_goes (repeats {s = s} taken few) w why left = held_length (sent_once s) w.0.holds
step_goes (empties taken way) w why left = absurd (left refl)
step_goes (moves {u = u} taken way) w why left = held_length (sent_once u) w.0.holds
step_goes (begins {m}) w why left = held_length (sent_once (slot_of m)) w.0.holds
step_goes joins w (inl over) left = absurd (over refl)
step_goes joins w (inr bare) left = absurd (omega arith)

-- THE FRONT GOES OUT WHEN IT BECOMES THE FRONT: in the call that ends the one before it, or takes it where none waits
pub goes_at_once : (c : Call) (xs : List Slot) → sound xs ≡ true
    → ((called c xs).answer.ended ≡ 0 → ⊥) ⊎ (waiting xs ≡ 0) → (waiting (called c xs).slots ≡ 0 → ⊥)
    → (called c xs).answer.length ≡ 0 → ⊥
goes_at_once c xs h why left none_out =
    let w = sound_waits (called c xs).slots (kept c xs h) in
    omega (arith, step_goes (step c xs h) w why left)

-- ---- how often it goes out

no_message : (a : Answer) (j : ℕ) → a.length ≡ 0 → went_out a (some j) ≡ 0
unfolding went_out
no_message a zero h = rw (eq-eqb a.length 0 h)
no_message a (suc j) h = refl

message : (a : Answer) → 1 ≤ a.length → went_out a (some zero) ≡ 1
unfolding went_out
message a h = rw (ne_eqb a.length 0 (λ e. omega arith))

-- a command that has just been taken has not gone out
new_unsent : (t : List Slot) (m : List ℕ) (j : ℕ) → get_or (sent_in (t ++ (slot_of m ∷ []))) j 0 ≡ get_or (sent_in t) j 0
new_unsent [] m zero = refl
new_unsent [] m (suc j) = refl
new_unsent (s ∷ t) m zero = refl
new_unsent (s ∷ t) m (suc j) = new_unsent t m j

-- the front goes out: its slot counts one more, and the others stay
front_counts : (s : Slot) (t : List Slot) (a : Answer) (j : ℕ) → 1 ≤ a.length
    → get_or (sent_in (sent_once s ∷ t)) j 0 ≡ went_out a (some j) + get_or (sent_in (s ∷ t)) j 0
unfolding went_out
front_counts s t a zero h = omega (arith, message a h)
front_counts s t a (suc j) h = omega arith

step_sent : {c : Call} {ws next : List Slot} {a : Answer} → Step c ws a next → Waits next → (j : ℕ)
    → get_or (sent_in next) j 0 ≡ went_out a (some j) + get_or (drop (ends_by a) (sent_in ws)) j 0
step_sent (stays n other taken idle) w j = omega (arith, no_message (says n 0 []) j refl)
step_sent (counts early) w j = omega (arith, no_message quiet j refl)
step_sent (repeats {s = s} {t} taken few) w j =
    front_counts s t (says 0 0 (going_out s)) j (held_length (sent_once s) w.0.holds)
step_sent (empties {e = e} taken way) w j = rw (way_ends e way) (omega (arith, no_message (says 0 e []) j refl))
step_sent (moves {u = u} {t} {e} taken way) w j =
    rw (way_ends e way) (front_counts u t (says 0 e (going_out u)) j (held_length (sent_once u) w.0.holds))
step_sent (begins {m}) w j =
    let long = held_length (sent_once (slot_of m)) w.0.holds in
    omega (arith, front_counts (slot_of m) [] (says 0 0 (going_out (slot_of m))) j long, new_unsent [] m j)
step_sent (joins {m} {s} {t}) w zero = omega (arith, no_message quiet zero refl)
step_sent (joins {m} {s} {t}) w (suc j) = omega (arith, no_message quiet (suc j) refl, new_unsent t m j)

few_sent : (ws : List Slot) (k : ℕ) → Waits ws → get_or (sent_in ws) k 0 ≤ 4
few_sent [] k w = omega arith
few_sent (s ∷ t) zero w = w.0.few
few_sent (s ∷ t) (suc k) w = go t k w.1
  where
    go : (t : List Slot) (k : ℕ) → Each Behind t → get_or (sent_in t) k 0 ≤ 4
    go [] k b = omega arith
    go (u ∷ t) zero b = let e = b.0.unsent in omega arith
    go (u ∷ t) (suc k) b = go t k b.1

-- a command that has ended goes out no more
ended_silent : (said : List Answer) → sendings said none ≡ 0
unfolding sendings moved went_out
ended_silent [] = refl
ended_silent (a ∷ said) = omega (arith, ended_silent said)

-- AT MOST FOUR SENDINGS for each command, those that its slot has counted before the run among them
pub four_in_all : (cs : List Call) (xs : List Slot) (k : ℕ) → sound xs ≡ true
    → get_or (sent_in (waiting_in xs)) k 0 + sendings (answers cs xs) (some k) ≤ 4
unfolding answers sendings went_out
four_in_all [] xs k h = omega (arith, few_sent (waiting_in xs) k (sound_waits xs h))
four_in_all (c ∷ cs) xs k h = go (moved a (some k)) refl (λ j. four_in_all cs next j (kept c xs h))
  where
    a : Answer
    a = (called c xs).answer

    next : List Slot
    next = (called c xs).slots

    go : (p : Option ℕ) → moved a (some k) ≡ p
        → ((j : ℕ) → get_or (sent_in (waiting_in next)) j 0 + sendings (answers cs next) (some j) ≤ 4)
        → get_or (sent_in (waiting_in xs)) k 0 + (went_out a p + sendings (answers cs next) p) ≤ 4
    go none e rest =
        omega (arith, ended_silent (answers cs next), few_sent (waiting_in xs) k (sound_waits xs h))
    go (some j) e rest =
        let w = sound_waits next (kept c xs h) in
        let there : ends_by a + j ≡ k = omega (arith, moved_falls a k j e) in
        let same : get_or (drop (ends_by a) (sent_in (waiting_in xs))) j 0 ≡ get_or (sent_in (waiting_in xs)) k 0 =
        get_or-drop (ends_by a) (sent_in (waiting_in xs)) j 0 ∙ ap (λ i. get_or (sent_in (waiting_in xs)) i 0) there in
        omega (arith, rest j, step_sent (step c xs h) w j)

-- from empty slots on: of the command that was taken after k others
pub four : (cs : List Call) (k : ℕ) → sendings (answers cs empty) (some k) ≤ 4
four cs k = omega (arith, four_in_all cs empty k empty_sound)

-- NEVER TWO OUTSTANDING: a command with others ahead of it has not gone out
pub none_behind : (said : List Answer) (k j : ℕ) → place_after said (some k) ≡ some (suc j) → sendings said (some k) ≡ 0
unfolding sendings went_out
none_behind [] k j h = refl
none_behind (a ∷ said) k j h =
    let x = place_then a said k (suc j) h in
    let behind : went_out a (some x.0) ≡ 0 = unsent x.0 (omega (arith, place_falls said x.0 (suc j) x.2)) in
    rw x.1 (omega (arith, none_behind said x.0 j x.2))
  where
    unsent : (i : ℕ) → 1 ≤ i → went_out a (some i) ≡ 0
    unsent zero h = absurd (omega arith)
    unsent (suc i) h = refl
