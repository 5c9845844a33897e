-- Each turn puts the next row. Assumes nothing.
use Rattle.std.proofs.Common.{◌≡◌}
use native.Mathlib.Omega.{arith}
use mathlib.Core.List.{flat_map}
use Rattle.standard.specs.Words.{up_to}
use Rattle.puts.proofs.Puts.{puts_none}
use Rattle.grid.specs.Grid.{wide, cells_of}
use Rattle.grid.proofs.Rows.{puts_more}
use Rattle.grid.proofs.Map.put_cells.Goals as goal

pub loop-row-init : goal.loop-row-init
unfolding up_to flat_map
loop-row-init c = puts_none _

pub loop-row-preserved : goal.loop-row-preserved
loop-row-preserved c = puts_more _ c.loop-row.row c.loop-row.invariant c.put_row.ensures

pub returns : goal.returns
unfolding cells_of
returns c =
    let all : c.loop-row.row ≡ wide c.args.self.now.level = omega arith in
    rw all at c.loop-row.invariant
