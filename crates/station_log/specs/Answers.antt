-- What is read from the answer to a question about a zone: a record that was found, none, or the refusal. Assumes nothing.
use Rattle.std.specs.Prelude.{ℕ, ◌≡◌, eqb, Bool, true, false, List, [], Option, None, Some, Result, Ok, Err}
use Rattle.std.specs.Borrow.{Bor}
use Rattle.standard.specs.declared.Refusal.{Refusal}
use Rattle.standard.specs.Refusals.{refusal_number}
use Rattle.station_log.specs.declared.Found.{Found}
use Rattle.station_log.specs.Log.{Place}

-- the number, and the record's place and length; "a refused call's counts and lengths are 0"
abbrev pub place_in : Result (Option Found) Refusal → Place
place_in (Ok None) = record { number = 0; at = 0; length = 0 }
place_in (Ok (Some found)) = record { number = 0; at = found.at; length = found.length }
place_in (Err refusal) = record { number = refusal_number refusal; at = 0; length = 0 }

-- the record's bytes; "its returned parts empty"
abbrev pub part_in : Result (Option (Bor (List ℕ))) Refusal → List ℕ
part_in (Ok None) = []
part_in (Ok (Some part)) = part.now
part_in (Err refusal) = []

-- whether no record is handed out, which a length of 0 or an empty part alone would not tell from None
abbrev pub none_in : {A : Type 0} → Result (Option A) Refusal → Bool
none_in (Ok None) = true
none_in (Ok (Some found)) = false
none_in (Err refusal) = true

-- what `find` promises of a place that is to be said; None exactly where its length is 0
pub record Finds (place : Place) (answer : Result (Option Found) Refusal) : Type 0 where
  pub says : place_in answer ≡ place
  pub none : none_in answer ≡ eqb place.length 0
