-- Laws of a header: its lines, as the parts that code puts between the numbers, and its length. Assumes nothing.
use Prim.Native.Nat.{ℕ, ◌≤◌}
use native.Mathlib.Omega.{arith}
use mathlib.Core.Path.{◌≡◌}
use mathlib.Core.List.{List, [], ◌∷◌, ◌++◌, append_assoc}
use lib.ListN.{length}
use Rattle.puts.specs.declared.Out.{Out}
use Rattle.puts.specs.Out.{Puts}
use Rattle.grid.specs.declared.Level.{Level}
use Rattle.grid.specs.declared.Level.TheVariants.{Sixteen, Eight, Four, Two, One}
use Rattle.standard.specs.Text.{characters}
use Rattle.standard.specs.Report.{decimal}
use Rattle.grid.specs.Grid.{wide, side, header_with, header_of}

-- ---- the four texts between the numbers, and the three numbers

abbrev pub columns_text : List ℕ
columns_text = characters "ncols "

abbrev pub rows_text : List ℕ
rows_text = 0x0A ∷ characters "nrows "

abbrev pub corners_text : List ℕ
corners_text = 0x0A ∷ characters "xllcorner 0" ++ (0x0A ∷ characters "yllcorner 0") ++ (0x0A ∷ characters "cellsize ")

abbrev pub end_text : List ℕ
end_text = 0x0A ∷ characters "NODATA_value -9999" ++ (0x0A ∷ characters "byteorder LSBFIRST") ++ (0x0A ∷ [])

-- lines, and what stands between their numbers
regroup : (a w b c d e n f g l : List ℕ)
    → (a ++ w ++ l)
    ++ (b ++ w ++ l)
    ++ (c ++ l)
    ++ (d ++ l)
    ++ (e ++ n ++ l)
    ++ (f ++ l)
    ++ (g ++ l)
    ≡ a ++ w ++ (l ++ b) ++ w ++ (l ++ c ++ (l ++ d) ++ (l ++ e)) ++ n ++ (l ++ f ++ (l ++ g) ++ l)
regroup a w b c d e n f g l = simp append_assoc

pub header_texts : (w n : ℕ)
    → header_with w n ≡ columns_text ++ decimal w ++ rows_text ++ decimal w ++ corners_text ++ decimal n ++ end_text
header_texts w n =
    regroup (characters "ncols ") (decimal w) (characters "nrows ") (characters "xllcorner 0")
    (characters "yllcorner 0")
    (characters "cellsize ")
    (decimal n)
    (characters "NODATA_value -9999")
    (characters "byteorder LSBFIRST")
    (0x0A ∷ [])

-- so the header, as code puts it
pub header_put : {o o' : Out} (level : Level) (w n : ℕ) → w ≡ wide level → n ≡ side level
    → Puts o (columns_text ++ decimal w ++ rows_text ++ decimal w ++ corners_text ++ decimal n ++ end_text) o'
    → Puts o (header_of level) o'
unfolding header_of
header_put level w n e f p = rw header_texts (rw (e, f) at p)

-- ---- lengths

pub header_most : (level : Level) → length (header_of level) ≤ 91
unfolding header_of characters
header_most Sixteen = omega arith
header_most Eight = omega arith
header_most Four = omega arith
header_most Two = omega arith
header_most One = omega arith
