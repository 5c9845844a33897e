-- The tests in their order. Assumes nothing.
use Rattle.std.proofs.lemmas.Result.{err_from_is_err_and}
use Rattle.standard.proofs.Sheet.{number_not_0}
use native.Mathlib.Omega.{arith}
use Prim.Native.Nat.{◌*◌}
use mathlib.Core.Path.{sym, ap, ◌∙◌}
use Rattle.standard.proofs.Questions.{asked_whole}
use Rattle.grid.proofs.Rows.{cells_bytes}
use Rattle.grid.proofs.Refused.{refused, short_header, short_cells, not_refused}
use Rattle.grid.proofs.check.Goals as goal
use Rattle.grid.proofs.check.Goals.{then-header-header_length-via-then-header-header_length, then-header-header_length-via-else-header-header_length+then-cells-wide}

pub returns-in_err-check : goal.returns-in_err-check
returns-in_err-check c =
    let a = c.args in
    let p = err_from_is_err_and c.from_residual.result c.from_residual.ensures.1 in
    let says = c.in_err-check.ensures in
    rw (p.1, p.2)
    (says
    ∙ sym
    (refused a.table.now a.level a.header a.cells (λ e. number_not_0 c.in_err-check.field-0.0 (says ∙ e))))

pub returns-then-header-header_length : goal.returns-then-header-header_length
returns-then-header-header_length c =
    let a = c.args in
    let whole = asked_whole _ (sym c.in_ok-check.ensures) in
    let long = c.header_length.ensures in
    let bytes = cells_bytes a.table.now a.level ∙ ap (λ w. 4 * w * w) (sym c.wide-wide.ensures) in
    elim c.then-header-header_length.branch [
      | then-header-header_length-via-then-header-header_length w ↦
          sym (short_header a.table.now a.level a.header a.cells whole (omega arith))
      | then-header-header_length-via-else-header-header_length+then-cells-wide w ↦
          sym (short_cells a.table.now a.level a.header a.cells whole (omega arith) (omega arith))
    ]

pub returns : goal.returns
returns c =
    let a = c.args in
    let long = c.header_length.ensures in
    let bytes = cells_bytes a.table.now a.level ∙ ap (λ w. 4 * w * w) (sym c.wide-wide.ensures) in
    sym
    (not_refused a.table.now a.level a.header a.cells
    (record {
      whole = asked_whole _ (sym c.in_ok-check.ensures);
      heads = omega arith;
      leaves = omega arith;
    }))
