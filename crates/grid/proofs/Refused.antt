-- Laws of a grid's refusals: what is known past each test, and that 11 and 9 are all there are. Assumes nothing.
use Prim.Native.Nat.{ℕ, ◌≤◌, ◌<◌}
use native.Mathlib.Nat.{eq-zero-or-pos}
use native.Mathlib.Omega.{arith}
use mathlib.Core.Path.{◌≡◌, refl, sym}
use mathlib.Core.Bool.{Bool, true, false, not, ◌&&◌, ◌||◌}
use mathlib.Core.Logic.{⊎_elim}
use mathlib.Core.List.{List, [], ◌∷◌}
use lib.Dec.{ltb}
use lib.ListN.{length}
use borrow.Author.Tests.{eq-eqb, ne_eqb, eqb-true, lt-ltb, le-ltb, ltb-false}
use Rattle.grid.specs.declared.Level.{Level}
use Rattle.standard.specs.Words.{first_of}
use Rattle.standard.specs.Table.{table_bytes, is_table}
use Rattle.standard.specs.Words.{laid}
use Rattle.standard.specs.Questions.{table_refusal}
use Rattle.standard.proofs.Questions.{whole_asked}
use Rattle.standard.proofs.Refusals.{first_in}
use Rattle.grid.specs.Grid.{header_of, cells_of, grid_tests, grid_refusal, gridded_of, Grids}
use Rattle.grid.proofs.Rows.{cells_bytes, cells_most_lem}
use Rattle.grid.proofs.Headers.{header_most}

-- a whole table, and room for the grid in buffers of so many bytes
pub record Room (t : List ℕ) (level : Level) (header cells : ℕ) : Type 0 where
  pub whole : length t ≡ table_bytes
  pub heads : length (header_of level) ≤ header
  pub leaves : length (cells_of t level) ≤ cells

module _ (t : List ℕ) (level : Level) (header cells : ℕ) where
  pub no_table : (length t ≡ table_bytes → ⊥) → first_of (grid_tests t level header cells) ≡ 11
  no_table h = rw (ne_eqb (length t) table_bytes h)

  -- which is the number of every question about the table
  pub refused : (table_refusal t ≡ 0 → ⊥) → first_of (grid_tests t level header cells) ≡ table_refusal t
  unfolding table_refusal
  refused h = rw (ne_eqb (length t) table_bytes (λ e. h (whole_asked t e)))

  pub short_header : length t ≡ table_bytes → header < length (header_of level)
      → first_of (grid_tests t level header cells) ≡ 9
  short_header h k = rw (eq-eqb (length t) table_bytes h, lt-ltb header (length (header_of level)) k)

  pub short_cells : length t ≡ table_bytes → length (header_of level) ≤ header → cells < length (cells_of t level)
      → first_of (grid_tests t level header cells) ≡ 9
  short_cells h k l =
      rw (
        eq-eqb (length t) table_bytes h,
        le-ltb header (length (header_of level)) k,
        lt-ltb cells (length (cells_of t level)) l,
      )

  pub not_refused : Room t level header cells → first_of (grid_tests t level header cells) ≡ 0
  not_refused r =
      rw (
        eq-eqb (length t) table_bytes r.whole,
        le-ltb header (length (header_of level)) r.heads,
        le-ltb cells (length (cells_of t level)) r.leaves,
      )

  -- by the three tests
  by : (whole short few : Bool) → is_table t ≡ whole → ltb header (length (header_of level)) ≡ short
      → ltb cells (length (cells_of t level)) ≡ few → first_of ((not whole, 11) ∷ (short || few, 9) ∷ []) ≡ 0
      → Room t level header cells
  by true false false p q r z = record {
    whole = eqb-true (length t) table_bytes p;
    heads = ltb-false header (length (header_of level)) q;
    leaves = ltb-false cells (length (cells_of t level)) r;
  }
  by true false true p q r z = absurd (omega arith)
  by true true few p q r z = absurd (omega arith)
  by false short few p q r z = absurd (omega arith)

  -- a grid that is not refused is of a whole table, and both buffers have room for it
  pub past : first_of (grid_tests t level header cells) ≡ 0 → Room t level header cells
  past z =
      by (is_table t) (ltb header (length (header_of level))) (ltb cells (length (cells_of t level))) refl refl refl z

-- ---- what `grid` answers

module _ (t : List ℕ) (level : Level) (header cells : List ℕ) where
  -- past the tests
  pub taken : grid_refusal t level header cells ≡ 0 → Room t level (length header) (length cells)
  unfolding grid_refusal
  taken z = past t level (length header) (length cells) z

  -- a refusal leaves both buffers
  pub refuses : (number : ℕ) → number ≡ grid_refusal t level header cells → (number ≡ 0 → ⊥)
      → Grids t level header cells (record { number = number; header = 0; cells = 0 }) header cells
  refuses number e h =
      let no = ne_eqb number 0 h in
      record { says = rw (← e, no); heads = rw (← e, no); leaves = rw (← e, no) }

  -- what is laid at the beginnings of both is the grid
  pub gives : grid_refusal t level header cells ≡ 0 → {header' cells' : List ℕ} {h c : ℕ}
      → (h ≡ length (header_of level)) × (header' ≡ laid header 0 (header_of level))
      → (c ≡ length (cells_of t level)) × (cells' ≡ laid cells 0 (cells_of t level))
      → Grids t level header cells (record { number = 0; header = h; cells = c }) header' cells'
  gives z heads leaves =
      record {
        says = rw z (λ i. record { number = 0; header = heads.0 i; cells = leaves.0 i });
        heads = rw z heads.1;
        leaves = rw z leaves.1;
      }

  -- the answer's number is the refusal's
  pub said : (gridded_of t level header cells).number ≡ grid_refusal t level header cells
  said =
      let n = grid_refusal t level header cells in
      ⊎_elim (λ e. rw (eq-eqb n 0 e) (sym e)) (λ (h : 0 < n). rw (ne_eqb n 0 (λ e. omega (arith, e, h))))
      (eq-zero-or-pos n)

  -- what holds of 0, 9 and 11 holds of every answer's number
  pub grid_within : (p : ℕ → Bool) → (p 11 && (p 9 && p 0)) ≡ true → p (grid_refusal t level header cells) ≡ true
  unfolding grid_refusal
  grid_within p h = first_in p (grid_tests t level (length header) (length cells)) h

  pub not_a_table : (length t ≡ table_bytes → ⊥) → grid_refusal t level header cells ≡ 11
  unfolding grid_refusal
  not_a_table h = no_table t level (length header) (length cells) h

  -- 91 and 1,024 bytes are room for every level
  pub room_enough : length t ≡ table_bytes → 91 ≤ length header → 1024 ≤ length cells
      → grid_refusal t level header cells ≡ 0
  unfolding grid_refusal
  room_enough h k l =
      let head = header_most level in
      let bytes = cells_bytes t level in
      let most = cells_most_lem level in
      not_refused t level (length header) (length cells)
      (record { whole = h; heads = omega arith; leaves = omega (arith, bytes, most) })
