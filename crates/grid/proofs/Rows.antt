-- Laws of cells one after another: four bytes each, and each a number or "not heard". Assumes nothing.
use Prim.Native.Nat.{ℕ, zero, suc, ◌+◌, ◌*◌, ◌≤◌, ◌<◌}
use native.Mathlib.Nat.{mul_comm, suc-mul, mul-suc, mul-le-mul_left, mul-le-mul_right}
use native.Mathlib.Numerals.{add-one}
use native.Mathlib.Omega.{arith}
use mathlib.Core.Path.{◌≡◌, refl, sym, ap, ap₂, ◌∙◌, subst}
use mathlib.Core.Bool.{Bool, not}
use mathlib.Core.Option.{Option, none, some}
use mathlib.Core.List.{List, [], ◌∷◌, ◌++◌, flat_map, append-nil}
use lib.Dec.{T}
use lib.Ieee.{Float, binary32}
use lib.ListN.{length, length-append}
use Rattle.puts.specs.declared.Out.{Out}
use Rattle.puts.specs.Out.{Puts}
use Rattle.puts.proofs.Puts.{puts_then}
use Rattle.grid.specs.declared.Level.{Level}
use Rattle.grid.specs.declared.Level.TheVariants.{Sixteen, Eight, Four, Two, One}
use Rattle.standard.specs.Words.{up_to}
use Rattle.standard.proofs.Words.{flat_map_append, up_to_more}
use Rattle.standard.proofs.Shares.{share_fair_in}
use Rattle.grid.specs.Grid.{wide, side, heard_in, faulted_in, share_at, cell_of, bytes_of, row_of, cells_of}
use Rattle.grid.specs.Cells.{is_number}
use Rattle.grid.proofs.Blocks.{block_bounded}

-- ---- a cell

-- no cell is a NaN, so each has its bytes
pub cell_number_lem : (t : List ℕ) (n top left : ℕ) → n ≤ 16 → T (is_number (share_at t n top left))
cell_number_lem t n top left h = go (share_at t n top left) refl
  where
    go : (o : Option Float) → share_at t n top left ≡ o → T (is_number o)
    go none e = tt
    go (some x) e =
        let fair =
        share_fair_in binary32 (heard_in t n top left) (faulted_in t n top left) x (block_bounded t n top left h) e in
        subst (λ (b : Bool). T (not b)) (sym fair.number) tt

pub four_bytes : (o : Option Float) → length (bytes_of o) ≡ 4
four_bytes none = refl
four_bytes (some x) = refl

-- ---- one after another

-- one number more
pub flat_more : {A : Type 0} (f : ℕ → List A) (n : ℕ) → flat_map f (up_to (n + 1)) ≡ flat_map f (up_to n) ++ f n
unfolding flat_map
flat_more f n =
    ap (flat_map f) (up_to_more n)
    ∙ flat_map_append f (up_to n) (n ∷ [])
    ∙ ap (λ l. flat_map f (up_to n) ++ l) (append-nil (f n))

pub flat_suc : {A : Type 0} (f : ℕ → List A) (n : ℕ) → flat_map f (up_to (suc n)) ≡ flat_map f (up_to n) ++ f n
flat_suc f n = ap (λ (k : ℕ). flat_map f (up_to k)) (sym (add-one n)) ∙ flat_more f n

-- what is made of the numbers below n goes by those alone
pub flat_below : (f g : ℕ → List ℕ) (n : ℕ) → ((x : ℕ) → x < n → f x ≡ g x) → flat_map f (up_to n) ≡ flat_map g (up_to n)
unfolding flat_map up_to
flat_below f g zero h = refl
flat_below f g (suc n) h =
    flat_suc f n
    ∙ ap₂ ◌++◌ (flat_below f g n (λ x b. h x (omega arith))) (h n (omega arith))
    ∙ sym (flat_suc g n)

-- the turn of a loop that puts them
pub puts_more : {o o' o'' : Out} (f : ℕ → List ℕ) (n : ℕ) → Puts o (flat_map f (up_to n)) o' → Puts o' (f n) o''
    → Puts o (flat_map f (up_to (n + 1))) o''
puts_more f n p q = rw (flat_more f n) (puts_then p q)

-- n parts of so many bytes each
pub flat_length : (f : ℕ → List ℕ) (size : ℕ) → ((i : ℕ) → length (f i) ≡ size) → (n : ℕ)
    → length (flat_map f (up_to n)) ≡ n * size
unfolding flat_map up_to
flat_length f size each zero = omega arith
flat_length f size each (suc n) =
    let less = flat_length f size each n in
    rw flat_map_append (simp length-append (rw suc-mul (omega (arith, each n, less))))

-- a block lies in the map: w of them stand side by side in it
pub inside : (n w k : ℕ) → n * w ≡ 16 → k < w → n * k + n ≤ 16
inside n w k h b =
    let most = mul-le-mul_left n b in
    omega (arith, mul-suc n k, most, h)

-- and of w parts of so many bytes each there is room for the next
pub room_for : (size w k : ℕ) → k < w → k * size + size ≤ w * size
room_for size w k b =
    let most = mul-le-mul_right size b in
    omega (arith, suc-mul k size, most)

-- ---- the levels

-- the blocks of a level side by side are the map, of every level
pub side_wide : (level : Level) → side level * wide level ≡ 16
side_wide Sixteen = refl
side_wide Eight = refl
side_wide Four = refl
side_wide Two = refl
side_wide One = refl

pub wide_some : (level : Level) → (0 < wide level) × (wide level ≤ 16)
wide_some Sixteen = (omega arith, omega arith)
wide_some Eight = (omega arith, omega arith)
wide_some Four = (omega arith, omega arith)
wide_some Two = (omega arith, omega arith)
wide_some One = (omega arith, omega arith)

-- and so a block of a level lies in it
pub inside_level : (level : Level) (k : ℕ) → k < wide level → side level * k + side level ≤ 16
inside_level level k b = inside (side level) (wide level) k (side_wide level) b

-- "rows of .. f32": four bytes each
pub row_bytes : (t : List ℕ) (level : Level) (row : ℕ) → length (row_of t level row) ≡ wide level * 4
unfolding row_of
row_bytes t level row = flat_length _ 4 (λ column. four_bytes (cell_of t level row column)) (wide level)

pub cells_bytes : (t : List ℕ) (level : Level) → length (cells_of t level) ≡ 4 * wide level * wide level
unfolding cells_of
cells_bytes t level =
    flat_length _ (wide level * 4) (row_bytes t level) (wide level)
    ∙ ap (λ n. wide level * n) (mul_comm (wide level) 4)
    ∙ mul_comm (wide level) (4 * wide level)

pub cells_most_lem : (level : Level) → 4 * wide level * wide level ≤ 1024
cells_most_lem Sixteen = omega arith
cells_most_lem Eight = omega arith
cells_most_lem Four = omega arith
cells_most_lem Two = omega arith
cells_most_lem One = omega arith
