-- Stepped through, a stream hands out what its parts do, each judged by itself: from every sound state, and one proof
-- for both framings. Assumes nothing.
use Prim.Native.Nat.{ℕ}
use mathlib.Core.Path.{◌≡◌, refl}
use mathlib.Core.Bool.{Bool, true, false}
use mathlib.Core.List.{List, [], ◌∷◌, ◌++◌, append_assoc}
use lib.Dec.{eqb}
use Rattle.standard.specs.declared.Framing.{Framing}
use Rattle.standard.specs.declared.Escapes.{Escapes}
use Rattle.standard.specs.Framing.{start_of}
use Rattle.standard.specs.Judge.{Handed}
use Rattle.standard.specs.Stream.{up_to_start, parts_of, handed_of}
use Rattle.reader.specs.declared.Mode.TheVariants.{Skipping}
use Rattle.reader.specs.Step.{State, framing_of, step_of}
use Rattle.reader.proofs.State.Soundness.{Fits}
use Rattle.reader.proofs.Part.Judging.{open_hands}
use Rattle.reader.proofs.State.Kept.{fits_step}
use Rattle.reader.proofs.Part.OneByte.{framing_step, hands_on, hands_cut, hands_none, hands_new}

-- what a stream stepped through hands out, and the state after it
abbrev pub run : Escapes → State → List ℕ → List Handed
run rule s [] = []
run rule s (b ∷ bs) = (step_of rule s b).said ++ run rule (step_of rule s b).next bs

abbrev pub after : Escapes → State → List ℕ → State
after rule s [] = s
after rule s (b ∷ bs) = after rule (step_of rule s b).next bs

-- a stream in two
pub run_append : (rule : Escapes) (s : State) (xs ys : List ℕ)
    → run rule s (xs ++ ys) ≡ run rule s xs ++ run rule (after rule s xs) ys
run_append rule s [] ys = refl
run_append rule s (b ∷ xs) ys = simp (run_append rule (step_of rule s b).next xs ys, append_assoc)

-- the open frame, then the parts after it
abbrev pub parts_from : Escapes → Framing → State → List ℕ → List Handed
parts_from rule f s bs =
    open_hands rule s.mode s.held (up_to_start (start_of f) bs) (parts_of (start_of f) bs) ++ handed_of rule f bs

module _ (rule : Escapes) (s : State) (b : ℕ) (bs : List ℕ) (k : Fits s.mode s.held) where
  abbrev f : Framing
  f = framing_of s.mode

  -- a start byte, or another
  one_more : (t : Bool) → eqb b (start_of f) ≡ t
      → (step_of rule s b).said ++ parts_from rule f (step_of rule s b).next bs ≡ parts_from rule f s (b ∷ bs)
  unfolding step_of
  one_more true e =
      let part = up_to_start (start_of f) bs in
      rw (e, hands_cut rule s.mode s.held (b ∷ part) (parts_of (start_of f) bs) k, hands_new rule f part)
  one_more false e =
      rw (e, hands_on rule s.mode s.held b k (up_to_start (start_of f) bs) (parts_of (start_of f) bs), append_assoc)

-- from every sound state
pub by_parts : (rule : Escapes) (s : State) (bs : List ℕ) → Fits s.mode s.held
    → run rule s bs ≡ parts_from rule (framing_of s.mode) s bs
by_parts rule s [] k = rw (hands_none rule s.mode s.held k)
by_parts rule s (b ∷ bs) k =
    rw (by_parts rule (step_of rule s b).next bs (fits_step rule s b k), framing_step rule s b)
    (one_more rule s b bs k (eqb b (start_of (framing_of s.mode))) refl)

-- from a reader between frames, whatever it holds
pub run_parts : (rule : Escapes) (f : Framing) (held bs : List ℕ) → Fits (Skipping f) held
    → run rule (record { mode = Skipping f; held = held }) bs ≡ handed_of rule f bs
run_parts rule f held bs k = by_parts rule (record { mode = Skipping f; held = held }) bs k
