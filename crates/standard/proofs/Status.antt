-- Laws of `is_status`: which messages are good and of numbers 04 to 08. Assumes nothing.
use Prim.Native.Nat.{ℕ, ◌%◌, ◌≤◌, ◌<◌}
use native.Mathlib.Omega.{arith}
use mathlib.Core.Path.{◌≡◌, refl, sym, subst, ◌∙◌}
use mathlib.Core.Bool.{Bool, true, false, cond, ◌&&◌}
use mathlib.Core.List.{List}
use mathlib.Core.Logic.{inl}
use lib.Dec.{eqb, leb, leb→le}
use lib.ListN.{length}
use borrow.Author.Tests.{eqb-true, eqb-false, leb-true, le-leb}
use Rattle.standard.specs.Words.{byte}
use Rattle.standard.specs.Messages.{known, length_in, number_of, length_for, values_ok, check_of}
use Rattle.standard.specs.Messages.{status_number, is_status}
use Rattle.standard.proofs.Messages.{both_true, and-true, low_length, number_length, good, passed, known_low}
use Rattle.standard.proofs.Messages.{passed_number, passed_offset, passed_partition, values_offset}
use Rattle.standard.proofs.Messages.{values_partition}

-- one of the five numbers
pub record Five (n : ℕ) : Type 0 where
  pub least : 0x04 ≤ n
  pub most : n ≤ 0x08

pub five : (n : ℕ) → status_number n ≡ true → Five n
five n w = let b = both_true _ _ w in record { least = leb-true 0x04 n b.0; most = leb-true n 0x08 b.1 }

pub five_number : (n : ℕ) → Five n → status_number n ≡ true
five_number n b = rw (le-leb 0x04 n b.least, le-leb n 0x08 b.most) refl

-- what each of them has, one of them has
of_five : (P : ℕ → Type 0) → P 0x04 → P 0x05 → P 0x06 → P 0x07 → P 0x08 → (n : ℕ) → Five n → P n
of_five P a b c d e n f =
    go (eqb n 0x04) refl (eqb n 0x05) refl (eqb n 0x06) refl (eqb n 0x07) refl
  where
    last : (n ≡ 0x04 → ⊥) → (n ≡ 0x05 → ⊥) → (n ≡ 0x06 → ⊥) → (n ≡ 0x07 → ⊥) → n ≡ 0x08
    last p q r s = let least = f.least in let most = f.most in omega arith

    go : (p : Bool) → eqb n 0x04 ≡ p → (q : Bool) → eqb n 0x05 ≡ q → (r : Bool) → eqb n 0x06 ≡ r
        → (s : Bool) → eqb n 0x07 ≡ s → P n
    go true p q q' r r' s s' = subst P (sym (eqb-true n 0x04 p)) a
    go false p true q r r' s s' = subst P (sym (eqb-true n 0x05 q)) b
    go false p false q true r s s' = subst P (sym (eqb-true n 0x06 r)) c
    go false p false q false r true s = subst P (sym (eqb-true n 0x07 s)) d
    go false p false q false r false s =
        subst P
        (sym (last (eqb-false n 0x04 p) (eqb-false n 0x05 q) (eqb-false n 0x06 r) (eqb-false n 0x07 s))) e

-- the checked values are in the second byte: "offset at most 240", "partition at most 7"
values_second : (m : List ℕ) → byte 2 m < 256 → (n : ℕ) → Five n
    → values_ok n m ≡ leb (byte 2 m) (cond (eqb n 0x05) 240 (cond (eqb n 0x06) 7 255))
unfolding values_ok
values_second m h =
    let any : true ≡ leb (byte 2 m) 255 = sym (le-leb (byte 2 m) 255 (omega arith)) in
    of_five (λ n. values_ok n m ≡ leb (byte 2 m) (cond (eqb n 0x05) 240 (cond (eqb n 0x06) 7 255)))
    any (values_offset m 0x05 (inl refl)) (values_partition m 0x06 (inl refl)) any any

-- their lengths
five_length : (n : ℕ) → Five n → 8 ≤ length_in known n
five_length =
    of_five (λ n. 8 ≤ length_in known n) (leb→le 8 8 tt) (leb→le 8 10 tt) (leb→le 8 9 tt) (leb→le 8 9 tt)
    (leb→le 8 12 tt)

-- a message of one of them, bit 6 clear, is good where its length and its second byte are
pub status_by : (m : List ℕ) (n : ℕ) → byte 1 m % 128 ≡ n → status_number n ≡ true → byte 2 m < 256
    → is_status m
    ≡ (eqb (length m) (length_for n) && leb (byte 2 m) (cond (eqb n 0x05) 240 (cond (eqb n 0x06) 7 255)))
unfolding is_status
status_by m n e w h =
    let b = five n w in
    let low : n < 64 = let most = b.most in omega arith in
    let number : number_of (byte 1 m) ≡ n = omega arith in
    let asks : length_for (byte 1 m) ≡ length_for n = low_length (byte 1 m) n e low ∙ sym (number_length n low) in
    let long : 8 ≤ length_for n = subst (λ (k : ℕ). 8 ≤ k) (sym (number_length n low)) (five_length n b) in
    rw (good m (λ z. let k = sym asks ∙ z in omega arith), number, asks, values_second m h n b, w) (and-true _)

-- what is one is good and one of the five
pub status_is : (m : List ℕ) → is_status m ≡ true → (check_of m ≡ 0) × Five (number_of (byte 1 m))
unfolding is_status
status_is m h = let b = both_true _ _ h in (eqb-true (check_of m) 0 b.0, five (number_of (byte 1 m)) b.1)

-- so it is one of them, and its checked value is right
pub status_cases : (P : Type 0) (m : List ℕ) → is_status m ≡ true
    → (number_of (byte 1 m) ≡ 0x04 → P)
    → (number_of (byte 1 m) ≡ 0x05 → byte 2 m ≤ 240 → P)
    → (number_of (byte 1 m) ≡ 0x06 → byte 2 m ≤ 7 → P)
    → (number_of (byte 1 m) ≡ 0x07 → P)
    → (number_of (byte 1 m) ≡ 0x08 → P)
    → P
status_cases P m h a b c d e =
    let s = status_is m h in
    let ok = passed m s.0 in
    of_five (λ n. number_of (byte 1 m) ≡ n → P) a (λ q. b q (passed_offset m ok q))
    (λ q. c q (passed_partition m ok q)) d e (number_of (byte 1 m)) s.1 refl

-- and what is not both is not
pub not_status : (m : List ℕ) → (check_of m ≡ 0 → Five (number_of (byte 1 m)) → ⊥) → is_status m ≡ false
unfolding is_status
not_status m h = go (eqb (check_of m) 0) refl (status_number (number_of (byte 1 m))) refl
  where
    go : (a : Bool) → eqb (check_of m) 0 ≡ a → (b : Bool) → status_number (number_of (byte 1 m)) ≡ b → (a && b) ≡ false
    go true p true q = absurd (h (eqb-true (check_of m) 0 p) (five (number_of (byte 1 m)) q))
    go true p false q = refl
    go false p b q = refl

-- a message of another number, bit 6 counted in
pub other_status : (m : List ℕ) → (Five (byte 1 m % 128) → ⊥) → is_status m ≡ false
other_status m other =
    not_status m
    (λ h b.
    let e = known_low (byte 1 m) (passed m h).known in
    let l = b.least in
    let k = b.most in
    other (record { least = omega arith; most = omega arith }))

-- so a message of them is not short
pub status_length_lem : (m : List ℕ) → is_status m ≡ true → 8 ≤ length m
status_length_lem m h =
    let s = status_is m h in
    let n = number_of (byte 1 m) in
    subst (λ (k : ℕ). 8 ≤ k) (sym (passed_number m n (passed m s.0) refl)) (five_length n s.1)

pub short_status : (m : List ℕ) → length m < 8 → is_status m ≡ false
short_status m h = go (is_status m) refl
  where
    go : (t : Bool) → is_status m ≡ t → t ≡ false
    go false e = refl
    go true e = let long = status_length_lem m e in absurd (omega arith)
