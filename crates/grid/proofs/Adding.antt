-- COUNTS ADD UP: four cells of a level make one of the next by their counts, the cells of every level together are the
-- site, and the one cell of the last level is the site of the overview. Assumes nothing.
use Prim.Native.Nat.{ℕ, zero, suc, ◌+◌, ◌-◌, ◌*◌, min}
use native.Mathlib.Nat.{add-zero, add_assoc, add-mul, mul-add, mul-one}
use native.Mathlib.Numerals.{add-one}
use native.Mathlib.Omega.{arith}
use mathlib.Core.Path.{◌≡◌, refl, sym, ap, ap₂, ◌∙◌}
use mathlib.Core.List.{List, [], ◌∷◌, map}
use Rattle.grid.specs.declared.Level.{Level}
use Rattle.grid.specs.declared.Level.TheVariants.{One}
use Rattle.standard.specs.Words.{up_to, total}
use Rattle.standard.specs.Table.{heard_zone, short_faulted}
use Rattle.standard.specs.Overview.{heard_of, faulted_of, group_numbers, heard_from, faulted_from}
use Rattle.standard.proofs.Words.{map_same, map_map, total_more}
use Rattle.standard.proofs.Seen.{heard_zones, faulted_zones}
use Rattle.grid.specs.Grid.{side, block_at, heard_in, faulted_in, heard_cell, faulted_cell}
use Rattle.grid.proofs.Blocks.{over_block, heard_rows, faulted_rows}

-- ---- totals of totals

-- so many, and as many more
total_split : (f : ℕ → ℕ) (a b : ℕ)
    → total (map f (up_to (a + b))) ≡ total (map f (up_to a)) + total (map (λ j. f (a + j)) (up_to b))
unfolding total up_to
total_split f a zero = ap (λ (n : ℕ). total (map f (up_to n))) (add-zero a) ∙ sym (add-zero _)
total_split f a (suc b) =
    let longer : a + suc b ≡ a + b + 1 = omega arith in
    ap (λ (n : ℕ). total (map f (up_to n))) longer
    ∙ total_more f (a + b)
    ∙ ap (λ (n : ℕ). n + f (a + b)) (total_split f a b)
    ∙ add_assoc _ _ _
    ∙ ap (λ (n : ℕ). total (map f (up_to a)) + n)
    (sym (total_more (λ j. f (a + j)) b) ∙ ap (λ (n : ℕ). total (map (λ j. f (a + j)) (up_to n))) (add-one b))

-- twice as many from a place on
twice : (g : ℕ → ℕ) (from n : ℕ)
    → total (map (λ j. g (from + j)) (up_to (n + n)))
    ≡ total (map (λ j. g (from + j)) (up_to n)) + total (map (λ j. g (from + n + j)) (up_to n))
twice g from n =
    total_split (λ j. g (from + j)) n n
    ∙ ap (λ (m : ℕ). total (map (λ j. g (from + j)) (up_to n)) + m)
    (ap total (map_same _ _ (λ j. ap g (sym (add_assoc from n j))) (up_to n)))

-- a total of sums
total_both : (f g : ℕ → ℕ) (l : List ℕ) → total (map (λ x. f x + g x) l) ≡ total (map f l) + total (map g l)
unfolding total
total_both f g [] = refl
total_both f g (x ∷ l) = let h = total_both f g l in omega arith

-- n by n numbers of a map, from a row and a column of it on
abbrev square : (ℕ → ℕ → ℕ) → ℕ → ℕ → ℕ → ℕ
square f n top left = total (map (λ i. total (map (λ j. f (top + i) (left + j)) (up_to n))) (up_to n))

module _ (f : ℕ → ℕ → ℕ) (n left : ℕ) where
  -- rows twice as long are two squares
  half : (top : ℕ)
      → total (map (λ i. total (map (λ j. f (top + i) (left + j)) (up_to (n + n)))) (up_to n))
      ≡ square f n top left + square f n top (left + n)
  half top = ap total (map_same _ _ (λ i. twice (f (top + i)) left n) (up_to n)) ∙ total_both _ _ (up_to n)

  -- a square twice as wide is four
  four_squares : (top : ℕ)
      → square f (n + n) top left
      ≡ square f n top left + square f n top (left + n) + square f n (top + n) left + square f n (top + n) (left + n)
  four_squares top =
      twice (λ r. total (map (λ j. f r (left + j)) (up_to (n + n)))) top n
      ∙ ap₂ ◌+◌ (half top) (half (top + n))
      ∙ sym (add_assoc _ _ _)

-- what a block adds up to is a square of the map
block_square : (f : ℕ → ℕ) (n top left : ℕ)
    → total (map (λ z. f (z - 1)) (block_at n top left)) ≡ square (λ row column. f (16 * row + column)) n top left
block_square f n top left =
    over_block f n top left
    ∙ ap total
    (map_same _ _
    (λ i. ap total (map_same _ _ (λ j. ap f (add_assoc (16 * (top + i)) left j)) (up_to n)))
    (up_to n))

-- ---- "four cells of a level make one of the next by their counts"

-- where the finer cells stand
even : (n k : ℕ) → (n + n) * k ≡ n * (k + k)
even n k = add-mul n n k ∙ sym (mul-add n k k)

odd : (n k : ℕ) → (n + n) * k + n ≡ n * (k + k + 1)
odd n k =
    ap (λ (m : ℕ). m + n) (even n k)
    ∙ ap (λ (m : ℕ). n * (k + k) + m) (sym (mul-one n))
    ∙ sym (mul-add n (k + k) 1)

module _ (f : ℕ → ℕ) where
  -- what is added up over a block
  abbrev over : ℕ → ℕ → ℕ → ℕ
  over n top left = total (map (λ z. f (z - 1)) (block_at n top left))

  four_blocks : (n top left : ℕ)
      → over (n + n) top left
      ≡ over n top left + over n top (left + n) + over n (top + n) left + over n (top + n) (left + n)
  four_blocks n top left =
      let at = block_square f n in
      block_square f (n + n) top left
      ∙ four_squares (λ row column. f (16 * row + column)) n left top
      ∙ sym
      (ap₂ ◌+◌ (ap₂ ◌+◌ (ap₂ ◌+◌ (at top left) (at top (left + n))) (at (top + n) left)) (at (top + n) (left + n)))

  -- the same of the cells of two levels, the finer one with half as many zones along a side
  abbrev cell : Level → ℕ → ℕ → ℕ
  cell level row column = over (side level) (side level * row) (side level * column)

  four_cells : (fine coarse : Level) → side coarse ≡ side fine + side fine → (row column : ℕ)
      → cell coarse row column
      ≡ cell fine (row + row) (column + column)
      + cell fine (row + row) (column + column + 1)
      + cell fine (row + row + 1) (column + column)
      + cell fine (row + row + 1) (column + column + 1)
  four_cells fine coarse e row column =
      let n = side fine in
      ap (λ (m : ℕ). over m (m * row) (m * column)) e
      ∙ four_blocks n ((n + n) * row) ((n + n) * column)
      ∙ ap₂ ◌+◌
      (ap₂ ◌+◌ (ap₂ ◌+◌ (ap₂ (over n) (even n row) (even n column)) (ap₂ (over n) (even n row) (odd n column)))
      (ap₂ (over n) (odd n row) (even n column)))
      (ap₂ (over n) (odd n row) (odd n column))

pub four_heard : (t : List ℕ) (fine coarse : Level) → side coarse ≡ side fine + side fine → (row column : ℕ)
    → heard_cell t coarse row column
    ≡ heard_cell t fine (row + row) (column + column)
    + heard_cell t fine (row + row) (column + column + 1)
    + heard_cell t fine (row + row + 1) (column + column)
    + heard_cell t fine (row + row + 1) (column + column + 1)
unfolding heard_in
four_heard t fine coarse e row column = four_cells (heard_zone t) fine coarse e row column

pub four_faulted : (t : List ℕ) (fine coarse : Level) → side coarse ≡ side fine + side fine → (row column : ℕ)
    → faulted_cell t coarse row column
    ≡ faulted_cell t fine (row + row) (column + column)
    + faulted_cell t fine (row + row) (column + column + 1)
    + faulted_cell t fine (row + row + 1) (column + column)
    + faulted_cell t fine (row + row + 1) (column + column + 1)
unfolding faulted_in
four_faulted t fine coarse e row column =
    four_cells (λ z. min (heard_zone t z) (short_faulted t z)) fine coarse e row column

-- ---- "the single cell of the 1-wide level is the site of the overview"

-- rows of the map are groups
site : (h : ℕ → ℕ) (r : ℕ → ℕ) → ((i : ℕ) → h (suc i) ≡ r (16 * i))
    → total (map (λ i. r (16 * (0 + i) + 0)) (up_to 16)) ≡ total (map h group_numbers)
site h r e =
    ap total
    (map_same _ _ (λ i. ap r (omega arith) ∙ sym (e i)) (up_to 16) ∙ sym (map_map suc h (up_to 16)))

pub site_heard : (t : List ℕ) → heard_cell t One 0 0 ≡ total (map (heard_of t) group_numbers)
site_heard t = heard_rows t 16 0 0 ∙ site (heard_of t) (λ from. heard_from t from 16) (heard_zones t)

pub site_faulted : (t : List ℕ) → faulted_cell t One 0 0 ≡ total (map (faulted_of t) group_numbers)
site_faulted t = faulted_rows t 16 0 0 ∙ site (faulted_of t) (λ from. faulted_from t from 16) (faulted_zones t)
