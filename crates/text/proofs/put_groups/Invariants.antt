-- The lines of the first `index` groups are put. Assumes nothing.
use Rattle.standard.specs.Report.{group_line}
use Rattle.puts.specs.Out.{Puts}
use Rattle.text.proofs.Groups.{first_lines}
use Rattle.text.proofs.put_groups.Given as goal

abbrev pub invariant-loop-index : goal.invariant-loop-index
invariant-loop-index l = Puts l.fn.out (first_lines (group_line l.fn.table) l.index) l.out
