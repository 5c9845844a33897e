-- Cards for document 02, No. 8: tables and buffers, and what a grid says and leaves, typed from its sentences. Assumes
-- nothing.
use Rattle.std.specs.Prelude.{ℕ, ◌*◌, length, drop, replicate}
use Prim.Native.String.{String}
use mathlib.Core.List.{List, [], ◌∷◌, ◌++◌, flat_map}
use Rattle.grid.specs.declared.Level.{Level}
use Rattle.grid.specs.declared.Level.TheVariants.{Sixteen, Eight, Four, Two, One}
use Rattle.standard.specs.Words.{up_to}
use Rattle.standard.specs.Text.{characters}
use Rattle.standard.specs.Table.{fresh, applied_to}
use Rattle.grid.specs.Grid.{Filled, header_of, cells_of, gridded_of, header_after, cells_after}

-- ---- headers, "lines .. each ended by 0Ah"

pub record Headed : Type 0 where
  pub level : Level
  pub lines : List String

abbrev headed : Level → List String → Headed
headed level lines = record { level = level; lines = lines }

abbrev ended : List String → List ℕ
ended lines = flat_map (λ line. characters line ++ (0x0A ∷ [])) lines

abbrev pub headed_of : Headed → List ℕ
headed_of c = header_of c.level

abbrev pub headed_as : Headed → List ℕ
headed_as c = ended c.lines

-- "The header of the 16-wide level is"; "a level w wide has w for both counts and 16 divided by w for cellsize"
abbrev pub headers : List Headed
headers =
    headed Sixteen
    ("ncols 16"
    ∷ "nrows 16"
    ∷ "xllcorner 0"
    ∷ "yllcorner 0"
    ∷ "cellsize 1"
    ∷ "NODATA_value -9999"
    ∷ "byteorder LSBFIRST"
    ∷ [])
    ∷ headed Eight
    ("ncols 8"
    ∷ "nrows 8"
    ∷ "xllcorner 0"
    ∷ "yllcorner 0"
    ∷ "cellsize 2"
    ∷ "NODATA_value -9999"
    ∷ "byteorder LSBFIRST"
    ∷ [])
    ∷ headed Four
    ("ncols 4"
    ∷ "nrows 4"
    ∷ "xllcorner 0"
    ∷ "yllcorner 0"
    ∷ "cellsize 4"
    ∷ "NODATA_value -9999"
    ∷ "byteorder LSBFIRST"
    ∷ [])
    ∷ headed Two
    ("ncols 2"
    ∷ "nrows 2"
    ∷ "xllcorner 0"
    ∷ "yllcorner 0"
    ∷ "cellsize 8"
    ∷ "NODATA_value -9999"
    ∷ "byteorder LSBFIRST"
    ∷ [])
    ∷ headed One
    ("ncols 1"
    ∷ "nrows 1"
    ∷ "xllcorner 0"
    ∷ "yllcorner 0"
    ∷ "cellsize 16"
    ∷ "NODATA_value -9999"
    ∷ "byteorder LSBFIRST"
    ∷ [])
    ∷ []

-- ---- cells

pub record Mapped : Type 0 where
  pub table : List ℕ
  pub level : Level
  pub cells : List ℕ

abbrev mapped : List ℕ → Level → List ℕ → Mapped
mapped table level cells = record { table = table; level = level; cells = cells }

abbrev pub mapped_of : Mapped → List ℕ
mapped_of c = cells_of c.table c.level

-- so many times minus 9999, and 0; 1 and fractions, as f32
abbrev unheard : ℕ → List ℕ
unheard n = flat_map (λ (k : ℕ). 0x00 ∷ 0x3C ∷ 0x1C ∷ 0xC6 ∷ []) (up_to n)

abbrev none_of : ℕ → List ℕ
none_of n = replicate (4 * n) 0x00

abbrev all_of : List ℕ
all_of = 0x00 ∷ 0x00 ∷ 0x80 ∷ 0x3F ∷ []

abbrev half_of : List ℕ
half_of = 0x00 ∷ 0x00 ∷ 0x00 ∷ 0x3F ∷ []

abbrev quarter_of : List ℕ
quarter_of = 0x00 ∷ 0x00 ∷ 0x80 ∷ 0x3E ∷ []

abbrev eighth_of : List ℕ
eighth_of = 0x00 ∷ 0x00 ∷ 0x00 ∷ 0x3E ∷ []

-- 1 / 17, rounded up in its last place: 3D70F0F1h
abbrev seventeenth_of : List ℕ
seventeenth_of = 0xF1 ∷ 0xF0 ∷ 0x70 ∷ 0x3D ∷ []

-- card 5 of document 01: "zones 1-16 heard, zone 1 faulted"; and zone 241, at bottom left, not faulted, by 04h
abbrev five : List ℕ
five = 0x05 ∷ 0x00 ∷ 0x01 ∷ 0x00 ∷ 0x00 ∷ 0x00 ∷ 0x00 ∷ 0x00 ∷ 0x00 ∷ 0x00 ∷ []

abbrev corner : List ℕ
corner = 0x04 ∷ 0xF0 ∷ 0x01 ∷ 0x00 ∷ 0x00 ∷ 0x00 ∷ 0x00 ∷ 0x00 ∷ []

abbrev top : List ℕ
top = applied_to fresh five

abbrev both : List ℕ
both = applied_to top corner

abbrev pub maps : List Mapped
maps =
    mapped top Sixteen (all_of ++ none_of 15 ++ unheard 240)
    ∷ mapped both Eight (half_of ++ none_of 7 ++ unheard 48 ++ none_of 1 ++ unheard 7)
    ∷ mapped both Four (quarter_of ++ none_of 3 ++ unheard 8 ++ none_of 1 ++ unheard 3)
    ∷ mapped both One seventeenth_of
    ∷ []

-- ---- calls

pub record Called : Type 0 where
  pub table : List ℕ
  pub level : Level
  pub header : List ℕ
  pub cells : List ℕ
  pub said : ℕ × ℕ × ℕ
  pub heads : List ℕ
  pub leaves : List ℕ

abbrev filled : Filled → ℕ × ℕ × ℕ
filled f = (f.number, f.header, f.cells)

abbrev pub called_of : Called → (ℕ × ℕ × ℕ) × List ℕ × List ℕ
called_of c = (
  filled (gridded_of c.table c.level c.header c.cells),
  header_after c.table c.level c.header c.cells,
  cells_after c.table c.level c.header c.cells,
)

abbrev pub called_as : Called → (ℕ × ℕ × ℕ) × List ℕ × List ℕ
called_as c = (c.said, c.heads, c.leaves)

-- "Refusals: 11, then 9 if either buffer is short": both buffers as they were
abbrev refused : List ℕ → Level → ℕ → ℕ → ℕ → Called
refused table level header cells number = record {
  table = table;
  level = level;
  header = replicate header 7;
  cells = replicate cells 9;
  said = (number, 0, 0);
  heads = replicate header 7;
  leaves = replicate cells 9;
}

-- "header and cells go to the beginnings of two lent buffers, both lengths are said, bytes beyond stay"
abbrev given : List ℕ → Level → ℕ → ℕ → ℕ → List ℕ → Called
given table level header cells long part = record {
  table = table;
  level = level;
  header = replicate header 7;
  cells = replicate cells 9;
  said = (0, long, length part);
  heads = header_of level ++ drop long (replicate header 7);
  leaves = part ++ drop (length part) (replicate cells 9);
}

abbrev pub calls : List Called
calls =
    refused [] One 0 0 11
    ∷ refused fresh One 89 4 9
    ∷ refused fresh One 90 3 9
    ∷ given top Two 93 20 89 (eighth_of ++ none_of 1 ++ unheard 2)
    ∷ []
