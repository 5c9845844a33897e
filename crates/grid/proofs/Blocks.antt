-- Laws of a block's counts: they are those of its rows, and bounded. Assumes nothing.
use Prim.Native.Nat.{ℕ, ◌+◌, ◌-◌, ◌*◌, ◌≤◌, min}
use native.Mathlib.Omega.{arith}
use mathlib.Core.Path.{◌≡◌, refl, ap, ◌∙◌}
use mathlib.Core.List.{List, [], ◌∷◌, map, flat_map}
use Rattle.standard.specs.Words.{up_to, total}
use Rattle.standard.specs.Table.{heard_zone, short_faulted}
use Rattle.standard.specs.Overview.{heard_from, faulted_from, Bounded}
use Rattle.standard.proofs.Words.{total_append, map_append, map_same, map_map, total_le, total_mono, length_up_to}
use Rattle.grid.specs.Grid.{zone_at, block_at, heard_in, faulted_in}

-- a total over lists that stand one after another
pub total_flat : (f : ℕ → ℕ) (g : ℕ → List ℕ) (l : List ℕ)
    → total (map f (flat_map g l)) ≡ total (map (λ i. total (map f (g i))) l)
unfolding flat_map total
total_flat f g [] = refl
total_flat f g (x ∷ l) =
    ap total (map_append f (g x) (flat_map g l))
    ∙ total_append (map f (g x)) (map f (flat_map g l))
    ∙ ap (λ (n : ℕ). total (map f (g x)) + n) (total_flat f g l)

-- a total over a block, row by row, by the zones' numbers on the line
pub over_block : (f : ℕ → ℕ) (n top left : ℕ)
    → total (map (λ z. f (z - 1)) (block_at n top left))
    ≡ total (map (λ i. total (map (λ j. f (16 * (top + i) + left + j)) (up_to n))) (up_to n))
unfolding block_at
over_block f n top left =
    total_flat (λ z. f (z - 1)) (λ i. map (λ j. zone_at (top + i) (left + j)) (up_to n)) (up_to n)
    ∙ ap total
    (map_same _ _
    (λ i.
    ap total
    (map_map (λ j. zone_at (top + i) (left + j)) (λ z. f (z - 1)) (up_to n)
    ∙ map_same _ _ (λ j. ap f (omega arith)) (up_to n)))
    (up_to n))

-- so its counts are those of a run of zones in each of its rows
pub heard_rows : (t : List ℕ) (n top left : ℕ)
    → heard_in t n top left ≡ total (map (λ i. heard_from t (16 * (top + i) + left) n) (up_to n))
unfolding heard_in
heard_rows t n top left = over_block (heard_zone t) n top left

pub faulted_rows : (t : List ℕ) (n top left : ℕ)
    → faulted_in t n top left ≡ total (map (λ i. faulted_from t (16 * (top + i) + left) n) (up_to n))
unfolding faulted_in
faulted_rows t n top left = over_block (λ z. min (heard_zone t z) (short_faulted t z)) n top left

-- of a run at most all are heard, and of those some faulted
pub run_bounded : (t : List ℕ) (from n : ℕ) → Bounded (heard_from t from n) (faulted_from t from n) n
run_bounded t from n =
    let few = total_le (λ j. heard_zone t (from + j)) 1 (λ j. omega arith) (up_to n) in
    let long = length_up_to n in
    record {
      among = total_mono (λ j. min (heard_zone t (from + j)) (short_faulted t (from + j))) (λ j. heard_zone t (from + j))
          (λ j. omega arith)
          (up_to n);
      few = omega (arith, few, long);
    }

-- of a block at most all of its zones are
pub block_bounded : (t : List ℕ) (n top left : ℕ) → n ≤ 16
    → Bounded (heard_in t n top left) (faulted_in t n top left) 256
block_bounded t n top left h =
    let few =
    total_le (λ i. heard_from t (16 * (top + i) + left) n) 16
    (λ i. let b = run_bounded t (16 * (top + i) + left) n in omega arith)
    (up_to n) in
    let long = length_up_to n in
    rw (heard_rows t n top left, faulted_rows t n top left)
    (record {
      among = total_mono (λ i. faulted_from t (16 * (top + i) + left) n) (λ i. heard_from t (16 * (top + i) + left) n)
          (λ i. (run_bounded t (16 * (top + i) + left) n).among)
          (up_to n);
      few = omega (arith, few, long, h);
    })
