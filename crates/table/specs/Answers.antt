-- What is read from the answer to a question that hands back a part of the table. Assumes nothing.
use Rattle.std.specs.Prelude.{ℕ, List, [], Result, Ok, Err}
use Rattle.std.specs.Borrow.{Bor}
use Rattle.standard.specs.declared.Refusal.{Refusal}

-- the part's bytes; "a refused call's .. returned parts empty"
abbrev pub part_in : Result (Bor (List ℕ)) Refusal → List ℕ
part_in (Ok part) = part.now
part_in (Err refusal) = []
