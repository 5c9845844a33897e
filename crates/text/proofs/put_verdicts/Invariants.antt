-- As many bytes are heard as are used, and the lines of what they hand out are put. Assumes nothing.
use Rattle.std.proofs.Common.{◌-◌, ℕ, length, take, List}
use Rattle.standard.specs.declared.Escapes.TheVariants.{Lenient}
use Rattle.reader.specs.declared.Mode.{Mode}
use Rattle.reader.specs.declared.Reader.{Reader}
use Rattle.puts.specs.Out.{Puts}
use Rattle.text.proofs.Turns.{lines_of, HeardTo}
use Rattle.text.proofs.put_verdicts.Given as goal

-- the reader with its parts
abbrev pub reader_of : Mode → ℕ → List ℕ → Reader
reader_of mode held frame = record { mode = mode; held = held; bytes = frame; escapes = Lenient }

abbrev pub invariant-loop-used : goal.invariant-loop-used
invariant-loop-used l =
    HeardTo l.capture l.fn.table l.used (reader_of l.mode l.held l.frame) l.table
    × Puts l.fn.out (lines_of (take l.used l.capture)) l.out

abbrev pub decreases-loop-used : goal.decreases-loop-used
decreases-loop-used l = length l.capture - l.used
