-- Document 01, "Verdicts and refusals": the numbers of the printed sheet, and what a call that can be refused answers.
-- Assumes nothing.
use Rattle.std.specs.Prelude.{ℕ, Result, Ok, Err}
use Rattle.standard.specs.declared.Refusal.{Refusal}
use Rattle.standard.specs.declared.Refusal.TheVariants.{Length, Unrecognised, OtherLength, Value, NoRoom, NoTable, NotSound, NoCommand, AllWaiting, BeyondLog, LogNotSound, NotKept, SlotsNotSound}

-- the number beside each on the sheet; 0 is none of them
abbrev pub refusal_number : Refusal → ℕ
refusal_number Length = 4
refusal_number Unrecognised = 6
refusal_number OtherLength = 7
refusal_number Value = 8
refusal_number NoRoom = 9
refusal_number NoTable = 11
refusal_number NotSound = 12
refusal_number NoCommand = 13
refusal_number AllWaiting = 14
refusal_number BeyondLog = 16
refusal_number LogNotSound = 17
refusal_number NotKept = 18
refusal_number SlotsNotSound = 22

-- the number of an answer: 0, or the refusal's
abbrev pub number_in : {A : Type 0} → Result A Refusal → ℕ
number_in (Ok value) = 0
number_in (Err refusal) = refusal_number refusal

-- the value of an answer; "a refused call's counts and lengths are 0, .. its returned parts empty"
abbrev pub value_in : {A : Type 0} → A → Result A Refusal → A
value_in none (Ok value) = value
value_in none (Err refusal) = none

-- what a call answers that says a length: "0, and the length", or the refusal's number and length 0
pub record Written : Type 0 where
  pub number : ℕ
  pub length : ℕ

abbrev pub written_in : Result ℕ Refusal → Written
written_in r = record { number = number_in r; length = value_in 0 r }
