-- Each refusal has a number of its own on the sheet, and none has 0; so that an answer's number and value are the answer.
-- Assumes nothing.
use Rattle.std.proofs.Common.{◌≡◌, ℕ, cond, eqb, Result, Ok, Err, refl, sym, ap, ◌∙◌, arith}
use Rattle.standard.specs.declared.Refusal.{Refusal}
use Rattle.standard.specs.declared.Refusal.TheVariants.{Length, Unrecognised, OtherLength, Value, NoRoom, NoTable, NotSound, NoCommand, AllWaiting, BeyondLog, LogNotSound, NotKept, SlotsNotSound}
use Rattle.standard.specs.Refusals.{refusal_number, number_in, value_in, Written, written_in}

-- the refusal beside a number
abbrev named : ℕ → Refusal
named n =
    cond (eqb n 4) Length
    (cond (eqb n 6) Unrecognised
    (cond (eqb n 7) OtherLength
    (cond (eqb n 8) Value
    (cond (eqb n 9) NoRoom
    (cond (eqb n 11) NoTable
    (cond (eqb n 12) NotSound
    (cond (eqb n 13) NoCommand
    (cond (eqb n 14) AllWaiting
    (cond (eqb n 16) BeyondLog
    (cond (eqb n 17) LogNotSound
    (cond (eqb n 18) NotKept SlotsNotSound)))))))))))

named_number : (r : Refusal) → named (refusal_number r) ≡ r
named_number Length = refl
named_number Unrecognised = refl
named_number OtherLength = refl
named_number Value = refl
named_number NoRoom = refl
named_number NoTable = refl
named_number NotSound = refl
named_number NoCommand = refl
named_number AllWaiting = refl
named_number BeyondLog = refl
named_number LogNotSound = refl
named_number NotKept = refl
named_number SlotsNotSound = refl

pub number_same : (x y : Refusal) → refusal_number x ≡ refusal_number y → x ≡ y
number_same x y e = sym (named_number x) ∙ ap named e ∙ named_number y

pub number_not_0 : (r : Refusal) → refusal_number r ≡ 0 → ⊥
number_not_0 Length e = omega arith
number_not_0 Unrecognised e = omega arith
number_not_0 OtherLength e = omega arith
number_not_0 Value e = omega arith
number_not_0 NoRoom e = omega arith
number_not_0 NoTable e = omega arith
number_not_0 NotSound e = omega arith
number_not_0 NoCommand e = omega arith
number_not_0 AllWaiting e = omega arith
number_not_0 BeyondLog e = omega arith
number_not_0 LogNotSound e = omega arith
number_not_0 NotKept e = omega arith
number_not_0 SlotsNotSound e = omega arith

pub answers_same : {A : Type 0} (none : A) (x y : Result A Refusal) → number_in x ≡ number_in y
    → value_in none x ≡ value_in none y → x ≡ y
answers_same none (Ok v) (Ok w) n e = ap Ok e
answers_same none (Ok v) (Err r) n e = absurd (number_not_0 r (sym n))
answers_same none (Err r) (Ok w) n e = absurd (number_not_0 r n)
answers_same none (Err r) (Err s) n e = ap Err (number_same r s n)

-- where there is nothing to tell beside the number
pub numbers_same : (x y : Result (Unit {0}) Refusal) → number_in x ≡ number_in y → x ≡ y
numbers_same x y n = answers_same tt x y n refl

-- of an answer that says a length
pub written_same : (x y : Result ℕ Refusal) → written_in x ≡ written_in y → x ≡ y
written_same x y e = answers_same 0 x y (ap (λ (w : Written). w.number) e) (ap (λ (w : Written). w.length) e)
