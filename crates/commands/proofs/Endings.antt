-- How the front ended is told by its number, and an answer by its numbers. Assumes nothing.
use Prim.Native.Nat.{ℕ}
use Rattle.std.specs.Prelude.{Option, Some, None, Result, Ok, Err}
use mathlib.Core.Path.{◌≡◌, refl, sym, ap, ◌∙◌}
use mathlib.Core.Bool.{Bool, true, false, cond, ◌&&◌, ◌||◌}
use mathlib.Core.List.{[], ◌∷◌}
use lib.Dec.{eqb}
use Rattle.standard.specs.Messages.{among}
use Rattle.standard.specs.declared.Refusal.{Refusal}
use Rattle.standard.proofs.Sheet.{number_same, number_not_0}
use Rattle.commands.specs.declared.Ended.{Ended}
use Rattle.commands.specs.declared.Ended.TheVariants.{GivenUp, Acknowledged, Failed, Rejected, Replied}
use Rattle.commands.specs.declared.Sending.{Sending}
use Rattle.commands.specs.Commands.{Answer, ended_number, answer_of, ends}

-- the ending of a number
abbrev ended_with : ℕ → Option Ended
ended_with n =
    cond (eqb n 1) (Some GivenUp)
    (cond (eqb n 0x1D) (Some Acknowledged)
    (cond (eqb n 0x1C) (Some Failed)
    (cond (eqb n 0x1F) (Some Rejected) (cond (eqb n 0x12) (Some Replied) None))))

-- which gives each ending again
back : (a : Option Ended) → ended_with (ended_number a) ≡ a
back None = refl
back (Some GivenUp) = refl
back (Some Acknowledged) = refl
back (Some Failed) = refl
back (Some Rejected) = refl
back (Some Replied) = refl

-- two endings of one number are the same
pub ended_one : {a b : Option Ended} → ended_number a ≡ ended_number b → a ≡ b
ended_one {a} {b} e = sym (back a) ∙ ap ended_with e ∙ back b

-- two answers of the same numbers are the same
pub answer_one : {x y : Result Sending Refusal} → answer_of x ≡ answer_of y → x ≡ y
answer_one {x = Ok x} {y = Ok y} e =
    let ended = ended_one (ap (λ (a : Answer). a.ended) e) in
    λ j. Ok (record { ended = ended j; length = (e j).length; message = (e j).message })
answer_one {x = Ok x} {y = Err r} e = absurd (number_not_0 r (sym (ap (λ (a : Answer). a.number) e)))
answer_one {x = Err r} {y = Ok y} e = absurd (number_not_0 r (ap (λ (a : Answer). a.number) e))
answer_one {x = Err r} {y = Err s} e = ap Err (number_same r s (ap (λ (a : Answer). a.number) e))

-- what ends a command is one of four
of_four : (a b c d x : Bool) → ((a || (b || (c || false))) || (d && x)) ≡ true
    → (a || (b || (c || (d || false)))) ≡ true
of_four true b c d x h = refl
of_four false true c d x h = refl
of_four false false true d x h = refl
of_four false false false true x h = refl
of_four false false false false x h = h

pub one_of_four : (front n : ℕ) → ends front n ≡ true → among n (0x1D ∷ 0x1C ∷ 0x1F ∷ 0x12 ∷ []) ≡ true
unfolding ends
one_of_four front n h = of_four (eqb n 0x1D) (eqb n 0x1C) (eqb n 0x1F) (eqb n 0x12) (among front (0x34 ∷ 0x35 ∷ [])) h
