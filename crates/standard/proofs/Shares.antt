-- Laws of a share: a division of two counts is their fraction rounded once, 0 exactly where none is faulted, 1 exactly
-- where all that are heard are, between the two, and a number. Rounding is monotone, so each follows from a fraction
-- that antt rounds. What is said of the fraction holds in either format. Assumes nothing.
use Prim.Native.Nat.{ℕ, zero, suc, ◌*◌, ◌^◌, ◌≤◌, ◌<◌}
use native.Mathlib.Nat.{mul_assoc, mul_comm, mul_left_comm, mul-one, mul-pos, lt_irrefl, eq-or-lt_of_le}
use native.Mathlib.Omega.{arith}
use mathlib.Core.Path.{◌≡◌, refl, sym, ap, ◌∙◌, subst}
use mathlib.Core.Bool.{true, false, true≢false}
use mathlib.Core.Logic.{◌⊎◌, inl, inr, ◌↔◌}
use mathlib.Core.Option.{none, some}
use mathlib.Core.List.{List, map}
use lib.Dec.{T}
use lib.IntN.{pos}
use lib.Ieee.{Float, nan, inf, fin, Format, binary32, binary64, prec, up, down, round, div, of_int, le, is_nan}
use lib.Ieee.Exact.{HasValue}
use lib.Ieee.Back.{round_whole}
use lib.Ieee.Fits.{down_pos}
use lib.Ieee.Order.{round_mono}
use lib.Ieee.Positive.{first_pos}
use lib.Ieee.Scale.{round_same}
use borrow.Author.Tests.{ne_eqb}
use Rattle.standard.specs.Words.{total}
use Rattle.standard.specs.Overview.{group_numbers, heard_of, faulted_of, share_in, share_of}
pub use Rattle.standard.specs.Overview.{float_zero, float_one, Fair}
use Rattle.standard.proofs.Seen.{Bounded, group_bounded, site_bounded}

-- ---- "faulted divided by heard .. rounded once"

-- what is positive is not 0
pos_not_zero : (n : ℕ) → 0 < n → n ≡ 0 → ⊥
pos_not_zero n h e = lt_irrefl 0 (subst (λ (k : ℕ). 0 < k) e h)

-- two fractions over powers of two, and the quotient of their values
cross : (x de dd a b y : ℕ) → x * 1 ≡ a * de → y * 1 ≡ b * dd → x * dd * b ≡ a * (y * de)
cross x de dd a b y p q =
    let p' : x ≡ a * de = sym (mul-one x) ∙ p in
    let q' : y ≡ b * dd = sym (mul-one y) ∙ q in
    rw (p', q') (simp (mul_assoc, mul_comm, mul_left_comm))

-- of two floats whose values are whole
div_values : (g : Format) (x y : Float) (a b : ℕ) → 0 < b → HasValue x false a 1 → HasValue y false b 1
    → div g x y ≡ round g false a b
unfolding div
div_values g nan y a b h p q = absurd p
div_values g (inf s) y a b h p q = absurd p
div_values g (fin true m e) y a b h p q = absurd (true≢false p.0)
div_values g (fin false m e) nan a b h p q = absurd q
div_values g (fin false m e) (inf t) a b h p q = absurd q
div_values g (fin false m e) (fin true n d) a b h p q = absurd (true≢false q.0)
div_values g (fin false m e) (fin false n d) a b h p q =
    let np : 0 < n * up d = subst (λ (k : ℕ). 0 < k) (sym (sym (mul-one (n * up d)) ∙ q.1)) (mul-pos h (down_pos d)) in
    rw (ne_eqb n 0 (pos_not_zero n (first_pos n (up d) np)))
    (round_same g false (m * up e * down d) (n * up d * down e) a b (mul-pos np (down_pos e)) h
    (cross (m * up e) (down e) (down d) a b (n * up d) p.1 q.1))

-- of two whole numbers that the format holds exactly
pub div_whole : (g : Format) (a b : ℕ) → a ≤ 2 ^ prec g → b ≤ 2 ^ prec g → 0 < b
    → div g (of_int g (pos a)) (of_int g (pos b)) ≡ round g false a b
unfolding of_int
div_whole g a b ha hb h =
    div_values g (round g false a 1) (round g false b 1) a b h (round_whole g false a ha) (round_whole g false b hb)

-- ---- the fraction of any counts of at most 256 zones

-- 0 and 1 are held exactly
zero_is : (g : Format) → round g false 0 1 ≡ float_zero
unfolding round
zero_is binary32 = refl
zero_is binary64 = refl

one_is : (g : Format) → round g false 1 1 ≡ float_one
unfolding round
one_is binary32 = refl
one_is binary64 = refl

-- the least fraction above 0, and the greatest below 1
above_zero : (g : Format) → T (le (round g false 1 256) float_zero) → ⊥
unfolding round le
above_zero binary32 t = t
above_zero binary64 t = t

below_one : (g : Format) → T (le float_one (round g false 255 256)) → ⊥
unfolding round le
below_one binary32 t = t
below_one binary64 t = t

module _ (g : Format) (h f : ℕ) (some-heard : 0 < h) (b : Bounded h f 256) where
  zero_iff : (round g false f h ≡ float_zero) ↔ (f ≡ 0)
  zero_iff = (
    λ e. go e f refl,
    λ e.
        ap (λ (n : ℕ). round g false n h) e
        ∙ round_same g false 0 h 0 1 some-heard (omega arith) (omega arith)
        ∙ zero_is g,
  )
    where
      go : round g false f h ≡ float_zero → (n : ℕ) → f ≡ n → f ≡ 0
      go e zero q = q
      go e (suc n) q =
          absurd
          (above_zero g
          (subst (λ (x : Float). T (le (round g false 1 256) x)) e
          (round_mono g 1 256 f h (omega arith) some-heard (omega arith))))

  one_iff : (round g false f h ≡ float_one) ↔ (f ≡ h)
  one_iff = (
    λ e. go e (eq-or-lt_of_le b.among),
    λ e.
        ap (λ (n : ℕ). round g false n h) e
        ∙ round_same g false h h 1 1 some-heard (omega arith) (omega arith)
        ∙ one_is g,
  )
    where
      go : round g false f h ≡ float_one → (f ≡ h) ⊎ (f < h) → f ≡ h
      go e (inl q) = q
      go e (inr q) =
          absurd
          (below_one g
          (subst (λ (x : Float). T (le x (round g false 255 256))) e
          (round_mono g f h 255 256 some-heard (omega arith) (omega arith))))

  at_most_one : T (le (round g false f h) float_one)
  at_most_one = rw (← one_is g) (round_mono g f h 1 1 some-heard (omega arith) (omega arith))

  a_number : is_nan (round g false f h) ≡ false
  unfolding is_nan le
  a_number = go (round g false f h) at_most_one
    where
      go : (x : Float) → T (le x float_one) → is_nan x ≡ false
      go nan t = absurd t
      go (inf s) t = refl
      go (fin s m e) t = refl

  -- of the fraction, in either format
  pub fraction_fair : Fair h f (round g false f h)
  fraction_fair = record {
    none_faulted = zero_iff;
    all_faulted = one_iff;
    low = rw (← zero_is g) (round_mono g 0 1 f h (omega arith) some-heard (omega arith));
    high = at_most_one;
    number = a_number;
  }

-- ---- the share

-- "not heard" when none is, in any format
pub not_heard_in : (g : Format) (h f : ℕ) → (share_in g h f ≡ none) ↔ (h ≡ 0)
not_heard_in g zero f = (λ e. refl, λ e. refl)
not_heard_in g (suc h) f = (λ e. cc, λ e. absurd (omega arith))

-- of a share that is a number
pub share_fair_in : (g : Format) (h f : ℕ) (x : Float) → Bounded h f 256 → share_in g h f ≡ some x → Fair h f x
share_fair_in g zero f x b e = let z : ◌≡◌ {A = ℕ} 0 1 = cc in absurd (omega arith)
share_fair_in g (suc h) f x b e = subst (Fair (suc h) f) (cc) (fraction_fair g (suc h) f (omega arith) b)

-- as code divides: two counts that the format holds exactly
pub divided : (g : Format) (h f : ℕ) → 0 < h → h ≤ 2 ^ prec g → f ≤ 2 ^ prec g
    → some (div g (of_int g (pos f)) (of_int g (pos h))) ≡ share_in g h f
divided g zero f heard hh hf = absurd (omega arith)
divided g (suc h) f heard hh hf = ap some (div_whole g f (suc h) hf hh heard)

-- "in f64" it is the overview's
pub share_64 : (h f : ℕ) → share_in binary64 h f ≡ share_of h f
share_64 zero f = refl
share_64 (suc h) f = refl

pub not_heard : (h f : ℕ) → (share_of h f ≡ none) ↔ (h ≡ 0)
not_heard h f =
    let either = not_heard_in binary64 h f in
    (λ e. either.0 (share_64 h f ∙ e), λ e. sym (share_64 h f) ∙ either.1 e)

pub share_fair : (h f : ℕ) (x : Float) → Bounded h f 256 → share_of h f ≡ some x → Fair h f x
share_fair h f x b e = share_fair_in binary64 h f x b (share_64 h f ∙ e)

-- of every group of every table, and of the site
pub group_fair : (t : List ℕ) (k : ℕ) (x : Float) → share_of (heard_of t k) (faulted_of t k) ≡ some x
    → Fair (heard_of t k) (faulted_of t k) x
group_fair t k x e =
    let b = group_bounded t k in
    share_fair (heard_of t k) (faulted_of t k) x (record { among = b.among; few = omega arith }) e

pub site_fair : (t : List ℕ) (x : Float)
    → (let h = total (map (heard_of t) group_numbers) in
    let f = total (map (faulted_of t) group_numbers) in
    share_of h f ≡ some x → Fair h f x)
site_fair t x e =
    share_fair (total (map (heard_of t) group_numbers)) (total (map (faulted_of t) group_numbers)) x
    (site_bounded t) e
