-- THE PLACE FOLLOWS THE COMMAND: it falls by one at each end and never grows, and the command that waits there after a
-- run is the one that waited before it. Assumes nothing.
use Prim.Native.Nat.{ℕ, zero, suc, ◌+◌, ◌<◌}
use native.Mathlib.Omega.{arith}
use mathlib.Core.Path.{◌≡◌, refl, ap, ◌∙◌}
use mathlib.Core.Bool.{Bool, true, false, cond}
use mathlib.Core.Option.{Option, none, some}
use mathlib.Core.List.{List, [], ◌∷◌, ◌++◌}
use lib.Dec.{eqb}
use lib.ListN.{length, get_or, length-append, length-drop, length-map, get_or-append}
use lib.Seq.{get_or-drop}
use Rattle.commands.specs.declared.Slot.{Slot}
use Rattle.commands.specs.Commands.{waiting, waiting_in, sound, Answer}
use Rattle.commands.specs.Runs.{Call, empty, answers, slots_after, taken_in, ends_in, line, lower, moved, place_after}
use Rattle.commands.proofs.Step.{going_out}
use Rattle.commands.specs.Runs.{ends_by, Less, Followed}
use Rattle.commands.proofs.Lost.{line_after, line_from_empty}

-- a command that has ended has no place again
pub ended_stays : (said : List Answer) → place_after said none ≡ none
unfolding place_after moved
ended_stays [] = refl
ended_stays (a ∷ said) = ended_stays said

-- the place falls by one at each end
pub moved_falls : (a : Answer) (k j : ℕ) → moved a (some k) ≡ some j → j + ends_by a ≡ k
unfolding moved lower
moved_falls a k j h = go (eqb a.ended 0) k h
  where
    go : (t : Bool) (k : ℕ) → cond t (some k) (lower k) ≡ some j → j + cond t 0 1 ≡ k
    go true k h = let e : k ≡ j = cc in omega arith
    go false zero h = let z : ◌≡◌ {A = ℕ} 0 1 = cc in absurd (omega arith)
    go false (suc k) h = let e : k ≡ j = cc in omega arith

-- one call, and then the others
pub place_then : (a : Answer) (said : List Answer) (k j : ℕ) → place_after (a ∷ said) (some k) ≡ some j
    → (i : ℕ) × (moved a (some k) ≡ some i) × (place_after said (some i) ≡ some j)
unfolding place_after
place_then a said k j h = go (moved a (some k)) h
  where
    go : (p : Option ℕ) → place_after said p ≡ some j → (i : ℕ) × (p ≡ some i) × (place_after said (some i) ≡ some j)
    go none h = let e = ended_stays said in let z : ◌≡◌ {A = ℕ} 0 1 = cc in absurd (omega arith)
    go (some i) h = (i, refl, h)

-- and by as many in a run as have ended
pub place_falls : (said : List Answer) (k j : ℕ) → place_after said (some k) ≡ some j → j + ends_in said ≡ k
unfolding place_after ends_in
place_falls [] k j h = let e : k ≡ j = cc in omega arith
place_falls (a ∷ said) k j h =
    let x = place_then a said k j h in
    omega (arith, moved_falls a k x.0 x.1, place_falls said x.0 j x.2)

followed : (before : List (List ℕ)) (n : ℕ) (after : List Slot) (k j : ℕ) → Less n before (line after) → j + n ≡ k
    → k < length before → Followed before n after k j
followed before n after k j x falls h =
    let there : n + j ≡ k = omega arith in
    record {
      ahead = falls;
      waits =
          omega (arith, length-map (waiting_in after) going_out, ap length x.rest ∙ length-drop n before);
      same =
          ap (λ l. get_or l j []) x.rest ∙ get_or-drop n before j [] ∙ ap (λ i. get_or before i []) there;
    }

-- THE COMMAND AT A PLACE after a run is the one that waited before it
pub place_holds : (cs : List Call) (xs : List Slot) (k j : ℕ) → sound xs ≡ true → k < waiting xs
    → place_after (answers cs xs) (some k) ≡ some j
    → Followed (line xs) (ends_in (answers cs xs)) (slots_after cs xs) k j
place_holds cs xs k j h w p =
    let said = answers cs xs in
    let came = taken_in cs said in
    let before : length (line xs) ≡ waiting xs = length-map (waiting_in xs) going_out in
    let inside : k < length (line xs) = omega arith in
    let all : k < length (line xs ++ came) = omega (arith, length-append (line xs) came) in
    let f =
    followed (line xs ++ came) (ends_in said) (slots_after cs xs) k j (line_after cs xs h) (place_falls said k j p) all in
    record {
      ahead = f.ahead;
      waits = f.waits;
      same = f.same ∙ get_or-append (line xs) came [] k inside;
    }

-- and from empty slots on, the one that was taken after k others
pub place_of_taken : (cs : List Call) (k j : ℕ) → k < length (taken_in cs (answers cs empty))
    → place_after (answers cs empty) (some k) ≡ some j
    → Followed (taken_in cs (answers cs empty)) (ends_in (answers cs empty)) (slots_after cs empty) k j
place_of_taken cs k j w p =
    let said = answers cs empty in
    followed (taken_in cs said) (ends_in said) (slots_after cs empty) k j (line_from_empty cs) (place_falls said k j p) w
