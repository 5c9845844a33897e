-- The lines of `standard`'s report, from the values that code has. Assumes nothing.
use Rattle.std.specs.Prelude.{ℕ, List, []}
use Rattle.standard.specs.declared.Verdict.{Verdict}
use Rattle.std.specs.Prelude.{Option}
use Rattle.std.specs.Prelude.{Some, None}
use Rattle.standard.specs.Judge.{Handed}
use Rattle.standard.specs.Report.{line_with}

-- what a verdict hands out but for the message, of which its line says nothing
abbrev pub handed_with : Verdict → Handed
handed_with v = record { verdict = v.number; type_byte_of = v.type_byte; message = [] }

-- the lines of at most one verdict, with its reply
abbrev pub said_lines : Option Verdict → ℕ → List ℕ
said_lines None reply = []
said_lines (Some v) reply = line_with (handed_with v) reply
