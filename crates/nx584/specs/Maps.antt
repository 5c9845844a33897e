-- What C gets of a zone map: include/nx584.h. Refusals, headers and cells are those of document 02, No. 8; a width that
-- names no level is refused here. Assumes nothing.
use Rattle.std.specs.Prelude.{ℕ, ◌≡◌, true, cond, List, [], ◌∷◌, eqb}
use Rattle.std.specs.Prelude.{Option, Some, None}
use Rattle.standard.specs.Words.{first_of}
use Rattle.standard.specs.Table.{table_test}
use Rattle.grid.specs.declared.Level.{Level}
use Rattle.grid.specs.declared.Level.TheVariants.{Sixteen, Eight, Four, Two, One}
use Rattle.grid.specs.Grid.{Filled, gridded_of, header_after, cells_after}
use Rattle.nx584.specs.declared.CGridded.{CGridded}

-- the level of a width, if it names one: 16, 8, 4, 2 or 1
unfoldable pub level_for : ℕ → Option Level
level_for width =
    cond (eqb width 16) (Some Sixteen)
    (cond (eqb width 8) (Some Eight)
    (cond (eqb width 4) (Some Four) (cond (eqb width 2) (Some Two) (cond (eqb width 1) (Some One) None))))

abbrev pub c_gridded : Filled → CGridded
c_gridded g = record { number = g.number; header = g.header; cells = g.cells }

-- no level: 11, and then 8, "a checked value is wrong", before 9, which asks for a level's bytes
abbrev pub no_level : List ℕ → CGridded
no_level t = record { number = first_of (table_test t ∷ (true, 8) ∷ []); header = 0; cells = 0 }

abbrev pub c_gridded_of : List ℕ → Option Level → List ℕ → List ℕ → CGridded
c_gridded_of t None header cells = no_level t
c_gridded_of t (Some level) header cells = c_gridded (gridded_of t level header cells)

abbrev pub c_header_after : List ℕ → Option Level → List ℕ → List ℕ → List ℕ
c_header_after t None header cells = header
c_header_after t (Some level) header cells = header_after t level header cells

abbrev pub c_cells_after : List ℕ → Option Level → List ℕ → List ℕ → List ℕ
c_cells_after t None header cells = cells
c_cells_after t (Some level) header cells = cells_after t level header cells

-- what `nx584_grid` promises: its answer, and every byte of the two buffers
pub record CGrids (t : List ℕ) (width : ℕ) (header cells : List ℕ) (answer : CGridded) (header' cells' : List ℕ)
    : Type 0 where
  pub says : answer ≡ c_gridded_of t (level_for width) header cells
  pub heads : header' ≡ c_header_after t (level_for width) header cells
  pub leaves : cells' ≡ c_cells_after t (level_for width) header cells
