-- Where the width names no level, it is 11 or 8, and the buffers stay. Assumes nothing.
use Rattle.std.proofs.Common.{◌≡◌, ℕ, Result, Ok, Err, List, [], ◌∷◌, true, refl, sym, ap, ◌∙◌}
use Rattle.std.specs.Result.{result_and}
use Rattle.standard.specs.declared.Refusal.{Refusal}
use Rattle.standard.specs.declared.Refusal.TheVariants.{Value}
use Rattle.standard.specs.Refusals.{number_in}
use Rattle.standard.specs.Words.{first_of}
use Rattle.standard.specs.Table.{table_test}
use Rattle.standard.specs.Questions.{table_refusal}
use Rattle.standard.proofs.Sheet.{number_not_0}
use Rattle.grid.specs.declared.Gridded.{Gridded}
use Rattle.grid.specs.Grid.{gridded_in}
use Rattle.nx584.specs.Maps.{c_gridded}
use Rattle.nx584.proofs.Maps.{unnamed, asked_eight, asked_eleven}
use Rattle.nx584.proofs.nx584_grid.Goals as goal

-- the table's own refusal first
second : (t : List ℕ) (r : Result (Unit {0}) Refusal) → number_in r ≡ table_refusal t
    → c_gridded (gridded_in (result_and {U = Gridded} r (Err Value)))
    ≡ record { number = first_of (table_test t ∷ (true, 8) ∷ []); header = 0; cells = 0 }
second t (Ok u) e = ap (λ n. record { number = n; header = 0; cells = 0 }) (asked_eight t (sym e))
second t (Err r) e =
    ap (λ n. record { number = n; header = 0; cells = 0 })
    (e ∙ asked_eleven t (λ z. number_not_0 r (e ∙ z)))

pub returns-in-None : goal.returns-in-None
returns-in-None c =
    let a = c.args in
    let said = c.from-in-None.ensures ∙ ap (λ r. c_gridded (gridded_in r)) c.and.ensures
    ∙ second a.table.now c.check.result c.check.ensures in
    rw said (unnamed a.table.now a.width a.header.now a.cells.now (sym c.level_for.ensures ∙ c.in-None.is) _ refl)
