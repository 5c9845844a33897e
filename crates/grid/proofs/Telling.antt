-- WHAT A CELL TELLS: 0 exactly where none is faulted, 1 exactly where all heard are, else between; the bytes of minus
-- 9999 exactly where nothing is heard; and nothing of an unheard zone. Assumes nothing.
use Prim.Native.Nat.{ℕ, zero, suc, ◌+◌, ◌-◌, ◌*◌, ◌/◌, ◌%◌, ◌≤◌, ◌<◌, min}
use native.Mathlib.Nat.{add-zero}
use native.Mathlib.Omega.{arith}
use mathlib.Core.Path.{◌≡◌, refl, sym, ap, ap₂, ◌∙◌, subst}
use mathlib.Core.Bool.{true, false}
use mathlib.Core.Logic.{◌↔◌}
use mathlib.Core.Option.{Option, none, some}
use mathlib.Core.List.{List, flat_map}
use lib.Dec.{T}
use lib.Ieee.{Float, binary32, round, to_bits, of_bits, le, fits}
use lib.Ieee.Bits.{of_bits-to_bits, to_bits-lt}
use lib.Ieee.Fits.{round-fits}
use lib.ListN.{get_or}
use Rattle.grid.specs.declared.Level.{Level}
use Rattle.grid.specs.declared.Level.TheVariants.{Sixteen}
use Rattle.standard.specs.Words.{up_to, total}
use Rattle.standard.specs.Table.{heard_zone, short_faulted}
use Rattle.standard.specs.Overview.{heard_one, faulted_one, share_in, Alike, Fair, float_zero, float_one}
use Rattle.standard.proofs.Seen.{same_below, same_faulted}
use Rattle.standard.proofs.Shares.{share_fair_in, not_heard_in}
use Rattle.grid.specs.Grid.{wide, side, zone_at, block_at, heard_in, faulted_in, share_at}
use Rattle.grid.specs.Grid.{cell_of, heard_cell, faulted_cell}
use Rattle.grid.specs.Grid.{little_endian, minus9999, bytes_of}
use Rattle.grid.specs.Grid.{row_of, cells_of}
use Rattle.grid.proofs.Blocks.{heard_rows, faulted_rows, block_bounded}
use Rattle.grid.proofs.Rows.{flat_below, inside_level}

-- ---- "A share is 0 exactly when none is faulted and 1 exactly when all heard are", and lies between

pub cell_fair : (t : List ℕ) (n top left : ℕ) (x : Float) → n ≤ 16 → share_at t n top left ≡ some x
    → Fair (heard_in t n top left) (faulted_in t n top left) x
cell_fair t n top left x h e =
    share_fair_in binary32 (heard_in t n top left) (faulted_in t n top left) x (block_bounded t n top left h) e

-- ---- bytes

-- a number by its lowest byte and the rest
by_byte : (m n : ℕ) → m % 256 ≡ n % 256 → m / 256 ≡ n / 256 → m ≡ n
by_byte m n e f = omega arith

-- the bytes of a pattern tell it
told : (m n : ℕ) → m < 4294967296 → n < 4294967296 → little_endian m ≡ little_endian n → m ≡ n
told m n h k e =
    let a : m % 256 ≡ n % 256 = ap (λ (l : List ℕ). get_or l 0 0) e in
    let b : m / 256 % 256 ≡ n / 256 % 256 = ap (λ (l : List ℕ). get_or l 1 0) e in
    let c : m / 65536 % 256 ≡ n / 65536 % 256 = ap (λ (l : List ℕ). get_or l 2 0) e in
    let d : m / 16777216 % 256 ≡ n / 16777216 % 256 = ap (λ (l : List ℕ). get_or l 3 0) e in
    let high = by_byte (m / 65536) (n / 65536) c (rest_high m ∙ last m h ∙ d ∙ sym (last n k) ∙ sym (rest_high n)) in
    by_byte m n a (by_byte (m / 256) (n / 256) b (rest m ∙ high ∙ sym (rest n)))
  where
    rest : (x : ℕ) → x / 256 / 256 ≡ x / 65536
    rest x = omega arith

    rest_high : (x : ℕ) → x / 65536 / 256 ≡ x / 16777216
    rest_high x = omega arith

    last : (x : ℕ) → x < 4294967296 → x / 16777216 ≡ x / 16777216 % 256
    last x small = omega arith

-- a share is a value of f32
share_fits : (h f : ℕ) (x : Float) → share_in binary32 h f ≡ some x → T (fits binary32 x)
share_fits zero f x e = let z : ◌≡◌ {A = ℕ} 0 1 = cc in absurd (omega arith)
share_fits (suc h) f x e = subst (λ (y : Float). T (fits binary32 y)) (cc) (round-fits binary32 false f (suc h))

-- the bytes of a value tell it
value_told : (x y : Float) → T (fits binary32 x) → T (fits binary32 y)
    → little_endian (to_bits binary32 x) ≡ little_endian (to_bits binary32 y) → x ≡ y
value_told x y h k e =
    sym (of_bits-to_bits binary32 x h)
    ∙ ap (of_bits binary32)
    (told (to_bits binary32 x) (to_bits binary32 y) (to_bits-lt binary32 x h) (to_bits-lt binary32 y k) e)
    ∙ of_bits-to_bits binary32 y k

-- ---- "minus 9999 only on output"

-- minus 9999 as f32
abbrev below_zero : Float
below_zero = round binary32 true 9999 1

-- as document 02 has its bytes
pub minus_9999 : little_endian (to_bits binary32 below_zero) ≡ minus9999
unfolding to_bits round
minus_9999 = refl

-- it is below every share
not_a_share : T (le float_zero below_zero) → ⊥
unfolding round le
not_a_share t = t

module _ (t : List ℕ) (n top left : ℕ) (few : n ≤ 16) where
  -- no share has its bytes
  never : (x : Float) → share_at t n top left ≡ some x → bytes_of (some x) ≡ minus9999 → ⊥
  never x e h =
      let is = value_told x below_zero (share_fits (heard_in t n top left) (faulted_in t n top left) x e)
      (round-fits binary32 true 9999 1)
      (h ∙ sym minus_9999) in
      not_a_share (subst (λ (y : Float). T (le float_zero y)) is (cell_fair t n top left x few e).low)

  -- A BLOCK HAS THE BYTES OF MINUS 9999 EXACTLY WHERE NOTHING OF IT IS HEARD
  pub no_data : (bytes_of (share_at t n top left) ≡ minus9999) ↔ (heard_in t n top left ≡ 0)
  no_data = (
    λ h. go (share_at t n top left) refl h,
    λ h. ap bytes_of ((not_heard_in binary32 (heard_in t n top left) (faulted_in t n top left)).1 h),
  )
    where
      go : (o : Option Float) → share_at t n top left ≡ o → bytes_of o ≡ minus9999 → heard_in t n top left ≡ 0
      go none e h = (not_heard_in binary32 (heard_in t n top left) (faulted_in t n top left)).0 e
      go (some x) e h = absurd (never x e h)

-- ---- "value 1 faulted, 0 not"

-- the zones themselves: a block of one
alone : (t : List ℕ) (row column : ℕ)
    → (heard_cell t Sixteen row column ≡ heard_one t (zone_at row column))
    × (faulted_cell t Sixteen row column ≡ faulted_one t (zone_at row column))
unfolding heard_in faulted_in block_at up_to total flat_map
alone t row column =
    let here : zone_at (1 * row + 0) (1 * column + 0) ≡ zone_at row column = omega arith in
    (add-zero _ ∙ ap (heard_one t) here, add-zero _ ∙ ap (faulted_one t) here)

-- a share of one zone
of_one : (h f : ℕ) → (h ≡ 0 → share_in binary32 h f ≡ none)
    × (h ≡ 1 → f ≡ 0 → share_in binary32 h f ≡ some float_zero)
    × (h ≡ 1 → f ≡ 1 → share_in binary32 h f ≡ some float_one)
unfolding round
of_one h f = (
  λ e. ap (λ (n : ℕ). share_in binary32 n f) e,
  λ e z. ap₂ (share_in binary32) e z,
  λ e z. ap₂ (share_in binary32) e z,
)

module _ (t : List ℕ) (row column : ℕ) where
  abbrev zone : ℕ
  zone = 16 * row + column

  -- a zone that is not heard is its own case, and one that is heard is 0 or 1
  pub zone_cell : (heard_zone t zone ≡ 0 → cell_of t Sixteen row column ≡ none)
      × (heard_zone t zone ≡ 1 → short_faulted t zone ≡ 0 → cell_of t Sixteen row column ≡ some float_zero)
      × (heard_zone t zone ≡ 1 → short_faulted t zone ≡ 1 → cell_of t Sixteen row column ≡ some float_one)
  zone_cell =
      let back : zone_at row column - 1 ≡ zone = omega arith in
      let heard = (alone t row column).0 ∙ ap (heard_zone t) back in
      let faulted = (alone t row column).1 ∙ ap (λ (z : ℕ). min (heard_zone t z) (short_faulted t z)) back in
      let one = of_one (heard_cell t Sixteen row column) (faulted_cell t Sixteen row column) in (
        λ e. one.0 (heard ∙ e),
        λ e z. one.1 (heard ∙ e) (faulted ∙ omega (arith, e, z)),
        λ e z. one.2 (heard ∙ e) (faulted ∙ omega (arith, e, z)),
      )

-- ---- "No unheard zone enters a share"

module _ (t u : List ℕ) (alike : Alike t u) where
  same_heard : (n top left : ℕ) → top + n ≤ 16 → left + n ≤ 16 → heard_in t n top left ≡ heard_in u n top left
  same_heard n top left h k =
      heard_rows t n top left
      ∙ ap total
      (same_below _ _ n
      (λ i b.
      ap total (same_below _ _ n (λ j c. alike.heard (16 * (top + i) + left + j) (omega arith)))))
      ∙ sym (heard_rows u n top left)

  same_faults : (n top left : ℕ) → top + n ≤ 16 → left + n ≤ 16 → faulted_in t n top left ≡ faulted_in u n top left
  same_faults n top left h k =
      faulted_rows t n top left
      ∙ ap total
      (same_below _ _ n
      (λ i b.
      ap total (same_below _ _ n (λ j c. same_faulted t u alike (16 * (top + i) + left + j) (omega arith)))))
      ∙ sym (faulted_rows u n top left)

  -- TWO TABLES ALIKE IN HEARD ZONES HAVE THE SAME CELLS, at every level
  pub same_cells : (level : Level) → cells_of t level ≡ cells_of u level
  unfolding cells_of row_of
  same_cells level =
      let n = side level in
      flat_below _ _ (wide level)
      (λ row b.
      flat_below _ _ (wide level)
      (λ column c.
      let h = inside_level level row b in
      let k = inside_level level column c in
      ap bytes_of
      (ap₂ (share_in binary32) (same_heard n (n * row) (n * column) h k) (same_faults n (n * row) (n * column) h k))))
