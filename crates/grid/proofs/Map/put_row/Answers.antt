-- Each turn puts the four bytes of the next cell. Assumes nothing.
use Rattle.std.proofs.Common.{◌≡◌, ℕ, T}
use native.Mathlib.Omega.{arith}
use mathlib.Core.Path.{sym, ap, ◌∙◌, subst}
use mathlib.Core.List.{List, flat_map}
use mathlib.Core.Option.{Option}
use lib.Ieee.{Float, binary32}
use Rattle.standard.specs.declared.Counts.{Counts}
use Rattle.standard.specs.Words.{up_to}
use Rattle.standard.specs.Overview.{share_in}
use Rattle.puts.proofs.Puts.{puts_none, puts_part}
use Rattle.grid.specs.declared.Level.{Level}
use Rattle.grid.specs.Grid.{wide, side, heard_cell, faulted_cell, cell_of, bytes_of, row_of}
use Rattle.grid.specs.Cells.{is_number}
use Rattle.grid.proofs.Rows.{cell_number_lem, puts_more}
use Rattle.grid.proofs.Map.put_row.Goals as goal

-- the share of the block's counts is the cell's
share : (t : List ℕ) (level : Level) (row column : ℕ) {counts : Counts} {o : Option Float}
    → counts ≡ record { heard = heard_cell t level row column; faulted = faulted_cell t level row column }
    → o ≡ share_in binary32 counts.heard counts.faulted
    → o ≡ cell_of t level row column
share t level row column e is = is ∙ ap (λ (c : Counts). share_in binary32 c.heard c.faulted) e

pub loop-column-init : goal.loop-column-init
unfolding up_to flat_map
loop-column-init c = puts_none _

pub bytes_of-requires : goal.bytes_of-requires
bytes_of-requires c =
    let map = c.args.self.now in
    subst (λ o. T (is_number o))
    (sym (share map.table.now map.level c.args.row c.loop-column.column c.block.ensures c.share_of-share.ensures))
    (cell_number_lem map.table.now (side map.level) _ _ (omega arith))

pub loop-column-preserved : goal.loop-column-preserved
loop-column-preserved c =
    let map = c.args.self.now in
    let is =
    c.bytes_of.ensures
    ∙ ap bytes_of
    (share map.table.now map.level c.args.row c.loop-column.column c.block.ensures c.share_of-share.ensures) in
    puts_more _ c.loop-column.column c.loop-column.invariant (rw is at (puts_part c.part.ensures))

pub returns : goal.returns
unfolding row_of
returns c =
    let all : c.loop-column.column ≡ wide c.args.self.now.level = omega arith in
    rw all at c.loop-column.invariant
