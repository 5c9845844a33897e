-- As many cells of the row are put. Assumes nothing.
use mathlib.Core.List.{flat_map}
use Rattle.standard.specs.Words.{up_to}
use Rattle.puts.specs.Out.{Puts}
use Rattle.grid.specs.Grid.{cell_of, bytes_of}
use Rattle.grid.proofs.Map.put_row.Given as goal

abbrev pub invariant-loop-column : goal.invariant-loop-column
invariant-loop-column l =
    Puts l.fn.out (flat_map (λ column. bytes_of (cell_of l.fn.self.table.now l.fn.self.level l.fn.row column)) (up_to l.column)) l.out
