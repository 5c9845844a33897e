-- Laws of `any_zero`: whether one of some cells is not yet written, cell after cell. Assumes nothing.
use Prim.Native.Nat.{ℕ, ◌+◌, ◌<◌}
use native.Mathlib.Numerals.{add-one}
use mathlib.Core.Path.{◌≡◌, sym, ap, ◌∙◌, refl}
use mathlib.Core.Bool.{Bool, true, false, ◌||◌}
use mathlib.Core.List.{List, [], ◌∷◌, ◌++◌}
use lib.Dec.{eqb}
use lib.ListN.{length, get_or, take}
use lib.Seq.{take-suc}
use borrow.Author.Tests.{eq-eqb, ne_eqb}
use Rattle.standard.proofs.Messages.{or-true, or-false}
use Rattle.station_log.specs.Cells.{any_zero}

-- of some cells and then others
pub any_append : (a b : List ℕ) → any_zero (a ++ b) ≡ (any_zero a || any_zero b)
unfolding any_zero
any_append [] b = refl
any_append (c ∷ a) b = go (eqb c 0) (any_append a b)
  where
    go : (t : Bool) → any_zero (a ++ b) ≡ (any_zero a || any_zero b)
        → (t || any_zero (a ++ b)) ≡ ((t || any_zero a) || any_zero b)
    go true e = refl
    go false e = e

-- one cell more
any_more : (l : List ℕ) (i : ℕ) → i < length l → any_zero (take (i + 1) l) ≡ (any_zero (take i l) || eqb (get_or l i 0) 0)
unfolding any_zero
any_more l i h =
    ap (λ (n : ℕ). any_zero (take n l)) (add-one i)
    ∙ ap any_zero (take-suc l i 0 h)
    ∙ any_append (take i l) (get_or l i 0 ∷ [])
    ∙ ap (λ t. any_zero (take i l) || t) (or-false (eqb (get_or l i 0) 0))

-- it is not yet written
pub any_new : (l : List ℕ) (i : ℕ) → i < length l → get_or l i 0 ≡ 0 → true ≡ any_zero (take (i + 1) l)
any_new l i h z = sym (any_more l i h ∙ rw (eq-eqb (get_or l i 0) 0 z) (or-true (any_zero (take i l))))

-- it is written, and says nothing
pub any_old : (l : List ℕ) (i : ℕ) → i < length l → (get_or l i 0 ≡ 0 → ⊥) → any_zero (take i l) ≡ any_zero (take (i + 1) l)
any_old l i h z = sym (any_more l i h ∙ rw (ne_eqb (get_or l i 0) 0 z) (or-false (any_zero (take i l))))
