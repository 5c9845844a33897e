-- A rule of a table, proved at all of its entries by one test that antt computes, one entry after the other; and so a
-- rule of every number below a bound. Assumes nothing.
use Prim.Native.Nat.{ℕ, zero, suc, ◌+◌, ◌<◌}
use native.Mathlib.Nat.{add-zero, zero-add, add-suc, suc-add, le_of_suc-le-suc, not-suc-le-zero}
use mathlib.Core.Path.{◌≡◌, refl, sym, subst, ◌∙◌}
use mathlib.Core.Bool.{Bool, true, false, cond, not, ◌&&◌}
use mathlib.Core.List.{List, [], ◌∷◌}
use lib.Dec.{T}
use lib.ListN.{length, get_or, replicate, length-replicate}

both_left : (a b : Bool) → T (a && b) → T a
both_left true b t = tt
both_left false b t = t

both_right : (a b : Bool) → T (a && b) → T b
both_right true b t = t
both_right false b t = absurd t

-- the test passes at each entry and its place, counted from i
abbrev pub every : (ℕ → ℕ → Bool) → ℕ → List ℕ → Bool
every f i [] = true
every f i (x ∷ xs) = f i x && every f (suc i) xs

from : (f : ℕ → ℕ → Bool) (xs : List ℕ) (i : ℕ) → T (every f i xs) → (k : ℕ) → k < length xs
    → T (f (i + k) (get_or xs k 0))
from f [] i t k h = absurd (not-suc-le-zero h)
from f (x ∷ xs) i t zero h = subst (λ m. T (f m x)) (sym (add-zero i)) (both_left (f i x) (every f (suc i) xs) t)
from f (x ∷ xs) i t (suc k) h =
    subst (λ m. T (f m (get_or xs k 0))) (suc-add i k ∙ sym (add-suc i k))
    (from f xs (suc i) (both_right (f i x) (every f (suc i) xs) t) k (le_of_suc-le-suc h))

-- a table's rule at one entry
pub at : (f : ℕ → ℕ → Bool) (xs : List ℕ) → T (every f 0 xs) → (k : ℕ) → k < length xs → T (f k (get_or xs k 0))
at f xs t k h = subst (λ m. T (f m (get_or xs k 0))) (zero-add k) (from f xs 0 t k h)

-- the test passes at each number below n
abbrev pub every_below : (ℕ → Bool) → ℕ → Bool
every_below f n = every (λ k x. f k) 0 (replicate n 0)

pub below : (f : ℕ → Bool) (n : ℕ) → T (every_below f n) → (k : ℕ) → k < n → T (f k)
below f n t k h = at (λ k x. f k) (replicate n 0) t k (subst (λ m. k < m) (sym (length-replicate n 0)) h)

-- two tests say the same
abbrev pub same : Bool → Bool → Bool
same a b = cond a b (not b)

pub same_eq : (a b : Bool) → T (same a b) → a ≡ b
same_eq true true t = refl
same_eq true false t = absurd t
same_eq false true t = absurd t
same_eq false false t = refl

-- two tests that say the same of each number below n
pub alike : (f g : ℕ → Bool) (n : ℕ) → T (every_below (λ k. same (f k) (g k)) n) → (k : ℕ) → k < n → f k ≡ g k
alike f g n t k h = same_eq (f k) (g k) (below (λ k. same (f k) (g k)) n t k h)
