-- As many rows are put. Assumes nothing.
use mathlib.Core.List.{flat_map}
use Rattle.standard.specs.Words.{up_to}
use Rattle.puts.specs.Out.{Puts}
use Rattle.grid.specs.Grid.{row_of}
use Rattle.grid.proofs.Map.put_cells.Given as goal

abbrev pub invariant-loop-row : goal.invariant-loop-row
invariant-loop-row l = Puts l.fn.out (flat_map (row_of l.fn.self.table.now l.fn.self.level) (up_to l.row)) l.out
