-- WHERE A CELL STANDS: in the file, row by row from the top; and which cell a zone is in. Assumes nothing.
use Prim.Native.Nat.{ℕ, zero, suc, ◌+◌, ◌-◌, ◌*◌, ◌/◌, ◌%◌, ◌<◌}
use native.Mathlib.Nat.{eq-or-lt_of_le, le_of_suc-le-suc, mul_assoc, mul_comm}
use native.Mathlib.Omega.{arith}
use mathlib.Core.Path.{◌≡◌, refl, sym, ap, ◌∙◌}
use mathlib.Core.Bool.{Bool, true, ◌&&◌}
use mathlib.Core.Logic.{⊎_elim}
use mathlib.Core.List.{List, [], ◌∷◌, ◌++◌, map, flat_map, append_assoc, append-nil}
use lib.ListN.{length, take, drop}
use lib.Seq.{take_at, drop_at, drop-drop}
use Rattle.grid.specs.declared.Level.{Level}
use Rattle.grid.specs.declared.Level.TheVariants.{Sixteen, Eight, Four, Two, One}
use Rattle.standard.specs.Words.{up_to}
use Rattle.standard.specs.Messages.{among}
use Rattle.grid.specs.Grid.{wide, side, block_at, cell_of, bytes_of, row_of, cells_of}
use Rattle.grid.proofs.Rows.{four_bytes, flat_suc, flat_length, row_bytes}

-- ---- one part of parts that stand one after another

-- what stands before it, and something after it
parted : (f : ℕ → List ℕ) (n k : ℕ) → k < n
    → (after : List ℕ) × (flat_map f (up_to n) ≡ flat_map f (up_to k) ++ f k ++ after)
parted f zero k h = absurd (omega arith)
parted f (suc n) k h =
    ⊎_elim
    (λ e. (
      [],
      flat_suc f n ∙ ap (λ (m : ℕ). flat_map f (up_to m) ++ f m) (sym e) ∙ sym (append-nil (flat_map f (up_to k) ++ f k)),
    ))
    (λ b.
    let less = parted f n k b in (
      less.0 ++ f n,
      flat_suc f n
          ∙ ap (λ (l : List ℕ). l ++ f n) less.1
          ∙ append_assoc (flat_map f (up_to k) ++ f k) less.0 (f n),
    ))
    (eq-or-lt_of_le (le_of_suc-le-suc h))

-- from its place on
there : (f : ℕ → List ℕ) (size : ℕ) → ((i : ℕ) → length (f i) ≡ size) → (n k : ℕ) → k < n
    → (more : List ℕ)
    → (after : List ℕ) × (drop (k * size) (flat_map f (up_to n) ++ more) ≡ f k ++ after)
there f size each n k h more =
    let p = parted f n k h in
    let before = flat_map f (up_to k) in (
      p.0 ++ more,
      ap (λ (l : List ℕ). drop (k * size) (l ++ more)) p.1
          ∙ ap (drop (k * size))
          (append_assoc (before ++ f k) p.0 more ∙ append_assoc before (f k) (p.0 ++ more))
          ∙ drop_at before (f k ++ (p.0 ++ more)) (k * size) (flat_length f size each k),
    )

-- ---- "rows of little-endian f32"

module _ (t : List ℕ) (level : Level) (row column : ℕ) (high : row < wide level) (far : column < wide level) where
  abbrev cell : ℕ → List ℕ
  cell k = bytes_of (cell_of t level row k)

  place : 4 * (wide level * row + column) ≡ row * (wide level * 4) + column * 4
  place =
      let e : row * (wide level * 4) ≡ wide level * row * 4 =
      sym (mul_assoc row (wide level) 4) ∙ ap (λ (n : ℕ). n * 4) (mul_comm row (wide level)) in
      omega (arith, e)

  -- A CELL STANDS IN THE FILE AT ITS ROW AND COLUMN, whatever follows the cells
  pub cell_there : (more : List ℕ)
      → take 4 (drop (4 * (wide level * row + column)) (cells_of t level ++ more)) ≡ bytes_of (cell_of t level row column)
  unfolding cells_of row_of
  cell_there more =
      let rows = there (row_of t level) (wide level * 4) (row_bytes t level) (wide level) row high more in
      let cells = there cell 4 (λ k. four_bytes (cell_of t level row k)) (wide level) column far rows.0 in
      ap (λ (n : ℕ). take 4 (drop n (cells_of t level ++ more))) place
      ∙ ap (take 4)
      (sym (drop-drop (column * 4) (row * (wide level * 4)) (cells_of t level ++ more))
      ∙ ap (drop (column * 4)) rows.1
      ∙ cells.1)
      ∙ take_at (cell column) cells.0 4 (four_bytes (cell_of t level row column))

-- ---- "16 rows of 16, zone 1 at top left"

-- whether zone z, which stands at row (z - 1) / 16 and column (z - 1) % 16 of the map, is in the block of its cell
abbrev pub is_there : Level → ℕ → Bool
is_there level z =
    among z
    (block_at (side level) (side level * ((z - 1) / 16 / side level)) (side level * ((z - 1) % 16 / side level)))

abbrev every : (ℕ → Bool) → List ℕ → Bool
every p [] = true
every p (n ∷ l) = p n && every p l

-- every zone is, at every level
pub zones_there : (level : Level) → every (is_there level) (map suc (up_to 256)) ≡ true
unfolding block_at up_to flat_map
zones_there Sixteen = refl
zones_there Eight = refl
zones_there Four = refl
zones_there Two = refl
zones_there One = refl
