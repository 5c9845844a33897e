-- Document 02, No. 8: "Zone maps as float grids". Zones have the paper's numbers here, from 1; rows and columns are
-- counted from 0, the top row and the leftmost column first. Assumes nothing.
use Rattle.std.specs.Prelude.{ℕ, ◌+◌, ◌*◌, ◌/◌, ◌%◌, ◌≡◌, Bool, cond, ◌||◌, eqb, ltb, Float, length, Some, None, Result, Ok, Err}
use Rattle.std.specs.Prelude.{Option as Shared}
use Rattle.std.proofs.Math.Option.{Option, none, some}
use mathlib.Core.List.{List, [], ◌∷◌, ◌++◌, map, flat_map}
use Rattle.std.specs.Float.{binary32}
use Rattle.std.specs.Float.Ieee.{to_bits}
use Rattle.grid.specs.declared.Level.{Level}
use Rattle.grid.specs.declared.Level.TheVariants.{Sixteen, Eight, Four, Two, One}
use Rattle.grid.specs.declared.Gridded.{Gridded}
use Rattle.standard.specs.declared.Refusal.{Refusal}
use Rattle.standard.specs.Refusals.{refusal_number}
use Rattle.standard.specs.Words.{up_to, total, first_of, laid}
use Rattle.standard.specs.Text.{characters}
use Rattle.standard.specs.Table.{table_test}
use Rattle.standard.specs.Overview.{heard_one, faulted_one, share_in}
use Rattle.standard.specs.Report.{decimal}

-- ---- the map and its levels

-- "A call names one of the five levels as a case": how many cells wide it is
abbrev pub wide : Level → ℕ
wide Sixteen = 16
wide Eight = 8
wide Four = 4
wide Two = 2
wide One = 1

-- "16 divided by w": the zones along a side of a cell's block
abbrev pub side : Level → ℕ
side level = 16 / wide level

-- "Lay the 256 zones as 16 rows of 16, zone 1 at top left"
abbrev pub zone_at : ℕ → ℕ → ℕ
zone_at row column = 16 * row + column + 1

-- a block of so many by so many zones, of which the top left one stands at a row and a column of the map
unfoldable pub block_at : ℕ → ℕ → ℕ → List ℕ
block_at n top left = flat_map (λ i. map (λ j. zone_at (top + i) (left + j)) (up_to n)) (up_to n)

-- "its block's counts"
unfoldable pub heard_in : List ℕ → ℕ → ℕ → ℕ → ℕ
heard_in t n top left = total (map (heard_one t) (block_at n top left))

unfoldable pub faulted_in : List ℕ → ℕ → ℕ → ℕ → ℕ
faulted_in t n top left = total (map (faulted_one t) (block_at n top left))

-- "gets from its block's counts a share rounded once to f32. A block or zone with nothing heard is its own case"
abbrev pub share_at : List ℕ → ℕ → ℕ → ℕ → Option Float
share_at t n top left = share_in binary32 (heard_in t n top left) (faulted_in t n top left)

-- the cell of a level at one of its rows and columns, and the counts of its block
abbrev pub cell_of : List ℕ → Level → ℕ → ℕ → Option Float
cell_of t level row column = share_at t (side level) (side level * row) (side level * column)

abbrev pub heard_cell : List ℕ → Level → ℕ → ℕ → ℕ
heard_cell t level row column = heard_in t (side level) (side level * row) (side level * column)

abbrev pub faulted_cell : List ℕ → Level → ℕ → ℕ → ℕ
faulted_cell t level row column = faulted_in t (side level) (side level * row) (side level * column)

-- the number of a share as code has it, and none for "not heard"
abbrev pub share_number : Shared Float → Option Float
share_number (Some x) = some x
share_number None = none

-- ---- "rows of little-endian f32"

abbrev pub little_endian : ℕ → List ℕ
little_endian n = (n % 256) ∷ (n / 256 % 256) ∷ (n / 65536 % 256) ∷ (n / 16777216 % 256) ∷ []

-- "becomes minus 9999 only on output, bytes 00 3C 1C C6"
abbrev pub minus9999 : List ℕ
minus9999 = 0x00 ∷ 0x3C ∷ 0x1C ∷ 0xC6 ∷ []

abbrev pub bytes_of : Option Float → List ℕ
bytes_of none = minus9999
bytes_of (some x) = little_endian (to_bits binary32 x)

unfoldable pub row_of : List ℕ → Level → ℕ → List ℕ
row_of t level row = flat_map (λ column. bytes_of (cell_of t level row column)) (up_to (wide level))

unfoldable pub cells_of : List ℕ → Level → List ℕ
cells_of t level = flat_map (row_of t level) (up_to (wide level))

-- ---- "a text header"

-- "each ended by 0Ah"
abbrev line : List ℕ → List ℕ
line text = text ++ (0x0A ∷ [])

-- "ncols 16 / nrows 16 / xllcorner 0 / yllcorner 0 / cellsize 1 / NODATA_value -9999 / byteorder LSBFIRST"; "a level w
-- wide has w for both counts and 16 divided by w for cellsize"
abbrev pub header_with : ℕ → ℕ → List ℕ
header_with w size =
    line (characters "ncols " ++ decimal w)
    ++ line (characters "nrows " ++ decimal w)
    ++ line (characters "xllcorner 0")
    ++ line (characters "yllcorner 0")
    ++ line (characters "cellsize " ++ decimal size)
    ++ line (characters "NODATA_value -9999")
    ++ line (characters "byteorder LSBFIRST")

unfoldable pub header_of : Level → List ℕ
header_of level = header_with (wide level) (side level)

-- ---- a grid in two lent buffers

-- "Refusals: 11, then 9 if either buffer is short"
abbrev pub grid_tests : List ℕ → Level → ℕ → ℕ → List (Bool × ℕ)
grid_tests t level header cells =
    table_test t ∷ (ltb header (length (header_of level)) || ltb cells (length (cells_of t level)), 9) ∷ []

unfoldable pub grid_refusal : List ℕ → Level → List ℕ → List ℕ → ℕ
grid_refusal t level header cells = first_of (grid_tests t level (length header) (length cells))

-- what a call that makes a grid answers: 0 and both lengths, or the refusal's number and lengths 0
pub record Filled : Type 0 where
  pub number : ℕ
  pub header : ℕ
  pub cells : ℕ

abbrev pub gridded_in : Result Gridded Refusal → Filled
gridded_in (Ok g) = record { number = 0; header = g.header; cells = g.cells }
gridded_in (Err refusal) = record { number = refusal_number refusal; header = 0; cells = 0 }

-- "both lengths are said"; "a refused call's counts and lengths are 0"
abbrev pub gridded_of : List ℕ → Level → List ℕ → List ℕ → Filled
gridded_of t level header cells =
    cond (eqb (grid_refusal t level header cells) 0)
    (record { number = 0; header = length (header_of level); cells = length (cells_of t level) })
    (record { number = grid_refusal t level header cells; header = 0; cells = 0 })

-- "its header and cells go to the beginnings of two lent buffers, .. bytes beyond stay"; a refusal leaves both
abbrev pub header_after : List ℕ → Level → List ℕ → List ℕ → List ℕ
header_after t level header cells =
    cond (eqb (grid_refusal t level header cells) 0) (laid header 0 (header_of level)) header

abbrev pub cells_after : List ℕ → Level → List ℕ → List ℕ → List ℕ
cells_after t level header cells =
    cond (eqb (grid_refusal t level header cells) 0) (laid cells 0 (cells_of t level)) cells

-- what `grid` promises: its answer, and every byte of the two buffers
pub record Grids (t : List ℕ) (level : Level) (header cells : List ℕ) (answer : Filled) (header' cells' : List ℕ)
    : Type 0 where
  pub says : answer ≡ gridded_of t level header cells
  pub heads : header' ≡ header_after t level header cells
  pub leaves : cells' ≡ cells_after t level header cells
