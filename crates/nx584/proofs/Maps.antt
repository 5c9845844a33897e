-- Laws of the zone map in C: a width names one of the five levels or none, the refusals in their order, and room that
-- is enough for every level. Assumes nothing.
use Prim.Native.Nat.{ℕ, ◌≤◌}
use mathlib.Core.Path.{◌≡◌, refl, sym, ap, ◌∙◌}
use mathlib.Core.Bool.{true}
use Rattle.std.specs.Prelude.{Option, Some, None}
use mathlib.Core.List.{List, [], ◌∷◌}
use lib.ListN.{length}
use borrow.Author.Tests.{eq-eqb, ne_eqb}
use Rattle.standard.specs.Words.{first_of}
use Rattle.standard.specs.Table.{table_bytes, table_test}
use Rattle.standard.specs.Questions.{table_refusal}
use Rattle.standard.proofs.Questions.{asked_whole, whole_asked}
use Rattle.standard.proofs.Refusals.{first_in}
use Rattle.standard.specs.Messages.{among}
use Rattle.grid.specs.declared.Level.{Level}
use Rattle.grid.specs.declared.Level.TheVariants.{Sixteen, Eight, Four, Two, One}
use Rattle.grid.specs.Grid.{wide}
use Rattle.grid.proofs.Refused.{said, grid_within, not_a_table, room_enough}
use Rattle.nx584.specs.declared.CGridded.{CGridded}
use Rattle.nx584.specs.Maps.{level_for, c_gridded_of, CGrids}

-- ---- 11, then 8

pub asked_eight : (t : List ℕ) → table_refusal t ≡ 0 → 8 ≡ first_of (table_test t ∷ (true, 8) ∷ [])
asked_eight t e = rw (eq-eqb (length t) table_bytes (asked_whole t e))

pub asked_eleven : (t : List ℕ) → (table_refusal t ≡ 0 → ⊥) → table_refusal t ≡ first_of (table_test t ∷ (true, 8) ∷ [])
unfolding table_refusal
asked_eleven t h = rw (ne_eqb (length t) table_bytes (λ e. h (whole_asked t e)))

module _ (t : List ℕ) (width : ℕ) (header cells : List ℕ) where
  -- where it names none, 11 or 8
  pub unnamed : level_for width ≡ None → (number : ℕ) → number ≡ first_of (table_test t ∷ (true, 8) ∷ [])
      → CGrids t width header cells (record { number = number; header = 0; cells = 0 }) header cells
  unnamed e number h = record {
    says = rw e (ap (λ n. record { number = n; header = 0; cells = 0 }) h);
    heads = rw e;
    leaves = rw e;
  }

-- ---- what the header says

-- a width names the level that is so wide, and any other width names none
pub width_names : (level : Level) → level_for (wide level) ≡ Some level
unfolding level_for
width_names Sixteen = refl
width_names Eight = refl
width_names Four = refl
width_names Two = refl
width_names One = refl

pub names_none : (width : ℕ) → ((level : Level) → width ≡ wide level → ⊥) → level_for width ≡ None
unfolding level_for
names_none width h =
    rw (
      ne_eqb width 16 (h Sixteen),
      ne_eqb width 8 (h Eight),
      ne_eqb width 4 (h Four),
      ne_eqb width 2 (h Two),
      ne_eqb width 1 (h One),
    )

module _ {t : List ℕ} {width : ℕ} {header cells : List ℕ} {answer : CGridded} {header' cells' : List ℕ}
    (c : CGrids t width header cells answer header' cells') where
  -- by what the width names
  number : answer.number ≡ (c_gridded_of t (level_for width) header cells).number
  number = ap (λ (g : CGridded). g.number) c.says

  -- every answer has one of these numbers
  pub c_grid_numbers : among answer.number (0 ∷ 8 ∷ 9 ∷ 11 ∷ []) ≡ true
  c_grid_numbers = ap (λ n. among n (0 ∷ 8 ∷ 9 ∷ 11 ∷ [])) number ∙ go (level_for width)
    where
      go : (o : Option Level) → among (c_gridded_of t o header cells).number (0 ∷ 8 ∷ 9 ∷ 11 ∷ []) ≡ true
      go None = first_in (λ n. among n (0 ∷ 8 ∷ 9 ∷ 11 ∷ [])) (table_test t ∷ (true, 8) ∷ []) refl
      go (Some level) =
          ap (λ n. among n (0 ∷ 8 ∷ 9 ∷ 11 ∷ [])) (said t level header cells)
          ∙ grid_within t level header cells (λ n. among n (0 ∷ 8 ∷ 9 ∷ 11 ∷ [])) refl

  -- 11 before all else
  pub c_no_table : (length t ≡ table_bytes → ⊥) → answer.number ≡ 11
  c_no_table h = number ∙ go (level_for width)
    where
      go : (o : Option Level) → (c_gridded_of t o header cells).number ≡ 11
      go None = rw (ne_eqb (length t) table_bytes h)
      go (Some level) = said t level header cells ∙ not_a_table t level header cells h

  -- then 8, whatever the buffers
  pub c_no_level : length t ≡ table_bytes → ((level : Level) → width ≡ wide level → ⊥) → answer.number ≡ 8
  c_no_level h k =
      number
      ∙ ap (λ o. (c_gridded_of t o header cells).number) (names_none width k)
      ∙ sym (asked_eight t (whole_asked t h))

  -- NX584_GRID_HEADER_MOST and NX584_GRID_CELLS_MOST bytes are room for every level
  pub c_grid_room : (level : Level) → length t ≡ table_bytes → width ≡ wide level → 91 ≤ length header
      → 1024 ≤ length cells → answer.number ≡ 0
  c_grid_room level h e k l =
      number
      ∙ ap (λ o. (c_gridded_of t o header cells).number) (ap level_for e ∙ width_names level)
      ∙ said t level header cells
      ∙ room_enough t level header cells h k l
