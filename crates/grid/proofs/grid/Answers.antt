-- Where nothing is refused both parts are put at the beginnings. Assumes nothing.
use Rattle.std.proofs.lemmas.Result.{err_from_is_err_and}
use Rattle.standard.proofs.Sheet.{number_not_0}
use mathlib.Core.Path.{◌≡◌, sym}
use borrow.Author.Rules.{rules}
use Rattle.puts.proofs.Puts.{puts_laid}
use Rattle.grid.specs.Grid.{grid_refusal}
use Rattle.grid.proofs.Refused.{taken, refuses, gives}
use Rattle.grid.proofs.grid.Goals as goal

pub returns-in_err-check : goal.returns-in_err-check
unfolding grid_refusal
returns-in_err-check c =
    let a = c.args in
    let p = err_from_is_err_and c.from_residual.result c.from_residual.ensures.1 in
    rw (p.1, p.2)
    (refuses a.table.now a.level a.header.now a.cells.now _ c.in_err-check.ensures
    (number_not_0 c.in_err-check.field-0.0))

pub returns : goal.returns
unfolding grid_refusal
returns c =
    let a = c.args in
    let none : grid_refusal a.table.now a.level a.header.now a.cells.now ≡ 0 = sym c.in_ok-check.ensures in
    let room = taken a.table.now a.level a.header.now a.cells.now none in
    let lines = c.new-lines.ensures in
    let rows = c.new-rows.ensures in
    gives a.table.now a.level a.header.now a.cells.now none
    (puts_laid lines.bytes lines.place c.put_header.ensures (search rules) c.place.ensures room.heads)
    (puts_laid rows.bytes rows.place c.put_cells.ensures (search rules) c.place-2.ensures room.leaves)
