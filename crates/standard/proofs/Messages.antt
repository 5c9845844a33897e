-- Laws of the verdict on a message, of the lengths and of the checked values. Assumes nothing.
use Prim.Native.Nat.{ℕ, zero, suc, ◌%◌, ◌≤◌, ◌<◌}
use native.Mathlib.Nat.{mod-lt, le_trans}
use native.Mathlib.Omega.{arith}
use mathlib.Core.Path.{◌≡◌, refl, sym, ap, subst, ◌∙◌}
use mathlib.Core.Bool.{Bool, true, false, cond, not, ◌&&◌, ◌||◌, true≢false, false≢true}
use mathlib.Core.List.{List, [], ◌∷◌, ◌++◌, map}
use mathlib.Core.Logic.{inl, inr}
use lib.Dec.{eqb, leb, ltb, eqb→eq, leb→le, lit<}
use lib.ListN.{length}
use types.Run.{OneOf}
use borrow.Author.Tests.{eqb-true, eqb-false, leb-true, leb-false, eq-eqb, ne_eqb, le-leb, lt-ltb, le-ltb}
use Rattle.std.proofs.Common.{Some, None, is_some}
use Rattle.std.proofs.lemmas.Option.{none-some, cond_some}
use Rattle.standard.specs.Words.{byte, bit, first_of}
use Rattle.standard.specs.Messages.{longest, length_ok, known, length_in, longest_known, number_of, length_for}
use Rattle.standard.specs.Messages.{recognised, length_asked, among, clear, x10_ok, clock_ok, values_ok, message_tests, check_of}
use Rattle.standard.proofs.Tables.{below}

pub both_true : (a b : Bool) → (a && b) ≡ true → (a ≡ true) × (b ≡ true)
both_true true b h = (refl, h)
both_true false b h = let z : ◌≡◌ {A = ℕ} 0 1 = cc in let y : ⊥ = omega arith in absurd y

pub neither_true : (a b : Bool) → (a || b) ≡ false → (a ≡ false) × (b ≡ false)
neither_true true b h = absurd (false≢true (sym h))
neither_true false b h = (refl, h)

pub or-true : (t : Bool) → (t || true) ≡ true
or-true true = refl
or-true false = refl

pub or-false : (t : Bool) → (t || false) ≡ t
or-false true = refl
or-false false = refl

-- a length that is read and written
pub record Length (n : ℕ) : Type 0 where
  pub some : 1 ≤ n
  pub few : n ≤ longest

pub length_ok_lem : (n : ℕ) → length_ok n ≡ true → Length n
length_ok_lem n h =
    let x = both_true (leb 1 n) (leb n longest) h in
    record { some = leb-true 1 n x.0; few = leb-true n longest x.1 }

ok_length : (n : ℕ) → Length n → length_ok n ≡ true
ok_length n h = rw (le-leb 1 n h.some, le-leb n longest h.few)

-- what a good message meets
pub record Passed (m : List ℕ) : Type 0 where
  pub sized : Length (length m)
  pub known : length_for (byte 1 m) ≡ 0 → ⊥
  pub whole : length m ≡ length_for (byte 1 m)
  pub valued : values_ok (number_of (byte 1 m)) m ≡ true

passed_by : (m : List ℕ) (a : Bool) → length_ok (length m) ≡ a → (b : Bool) → eqb (length_for (byte 1 m)) 0 ≡ b
    → (c : Bool) → eqb (length m) (length_for (byte 1 m)) ≡ c → (d : Bool) → values_ok (number_of (byte 1 m)) m ≡ d
    → first_of ((not a, 4) ∷ (not (not b), 6) ∷ (not c, 7) ∷ (not d, 8) ∷ []) ≡ 0 → Passed m
passed_by m true p false q true r true s h = record {
  sized = length_ok_lem (length m) p;
  known = eqb-false (length_for (byte 1 m)) 0 q;
  whole = eqb-true (length m) (length_for (byte 1 m)) r;
  valued = s;
}
passed_by m false p b q c r d s h = absurd (omega arith)
passed_by m true p true q c r d s h = absurd (omega arith)
passed_by m true p false q false r d s h = absurd (omega arith)
passed_by m true p false q true r false s h = absurd (omega arith)

pub passed : (m : List ℕ) → check_of m ≡ 0 → Passed m
unfolding check_of
passed m h =
    passed_by m (length_ok (length m)) refl (eqb (length_for (byte 1 m)) 0) refl
    (eqb (length m) (length_for (byte 1 m))) refl
    (values_ok (number_of (byte 1 m)) m) refl h

then_by : (a b c d : Bool) (later : List (Bool × ℕ))
    → first_of (((a, 4) ∷ (b, 6) ∷ (c, 7) ∷ (d, 8) ∷ []) ++ later)
    ≡ cond (eqb (first_of ((a, 4) ∷ (b, 6) ∷ (c, 7) ∷ (d, 8) ∷ [])) 0) (first_of later)
    (first_of ((a, 4) ∷ (b, 6) ∷ (c, 7) ∷ (d, 8) ∷ []))
then_by true b c d later = refl
then_by false true c d later = refl
then_by false false true d later = refl
then_by false false false true later = refl
then_by false false false false later = refl

-- refusals that come after the message's own
pub check_then : (m : List ℕ) (later : List (Bool × ℕ))
    → first_of (message_tests m ++ later) ≡ cond (eqb (check_of m) 0) (first_of later) (check_of m)
unfolding check_of
check_then m later =
    then_by (not (length_ok (length m))) (not (not (eqb (length_for (byte 1 m)) 0)))
    (not (eqb (length m) (length_for (byte 1 m))))
    (not (values_ok (number_of (byte 1 m)) m)) later

-- refusals that come before the message's own
pub check_after : (t : Bool) (n : ℕ) (m : List ℕ) → first_of ((t, n) ∷ message_tests m) ≡ cond t n (check_of m)
unfolding check_of
check_after t n m = refl

good_by : (a b c d : Bool) → (b ≡ true → ⊥) → (c ≡ true → a ≡ true)
    → eqb (first_of ((not a, 4) ∷ (not (not b), 6) ∷ (not c, 7) ∷ (not d, 8) ∷ [])) 0 ≡ (c && d)
good_by a true c d p q = absurd (p refl)
good_by true false true true p q = refl
good_by true false true false p q = refl
good_by true false false d p q = refl
good_by false false false d p q = refl
good_by false false true d p q = let z : ◌≡◌ {A = ℕ} 0 1 = let e = q refl in cc in absurd (omega arith)

-- ---- lengths

-- a recognised type byte's length is that of its number
pub length_number : (t : ℕ) → (length_for t ≡ 0 → ⊥) → length_for t ≡ length_in known (number_of t)
unfolding length_for
length_number t h = go (eqb (bit 6 t) 0) h
  where
    go : (clear : Bool) → (cond clear (length_in known (number_of t)) 0 ≡ 0 → ⊥)
        → cond clear (length_in known (number_of t)) 0 ≡ length_in known (number_of t)
    go true h = refl
    go false h = absurd (h refl)

-- a type byte with bit 6 clear asks the length of its lower seven bits, which are its number
pub low_length : (t n : ℕ) → t % 128 ≡ n → n < 64 → length_for t ≡ length_in known n
unfolding length_for
low_length t n e h =
    let clear : bit 6 t ≡ 0 = omega arith in
    let number : number_of t ≡ n = omega arith in
    rw (eq-eqb (bit 6 t) 0 clear) (ap (length_in known) number)

-- the number of a recognised type byte is its lower seven bits
pub known_low : (t : ℕ) → (length_for t ≡ 0 → ⊥) → number_of t ≡ t % 128
unfolding length_for
known_low t h = go (eqb (bit 6 t) 0) refl h
  where
    go : (clear : Bool) → eqb (bit 6 t) 0 ≡ clear → (cond clear (length_in known (number_of t)) 0 ≡ 0 → ⊥)
        → number_of t ≡ t % 128
    go true e h = let z : bit 6 t ≡ 0 = eqb-true (bit 6 t) 0 e in omega arith
    go false e h = absurd (h refl)

-- a number is a type byte with bits 6 and 7 clear
pub number_length : (n : ℕ) → n < 64 → length_for n ≡ length_in known n
unfolding length_for
number_length n h =
    eqb→eq (length_for n) (length_in known n) (below (λ k. eqb (length_for k) (length_in known k)) 64 tt n h)

-- "The 41 messages": so many, and each is found under its own number
pub known_41 : length known ≡ 41
known_41 = refl

pub known_once : map (λ row. length_in known row.0) known ≡ map (λ row. row.1) known
known_once = refl

-- the longest of the 41 messages has the greatest of their lengths, and none is longer than what is read
pub known_most : (n : ℕ) → n < 64 → length_in known n ≤ longest_known
known_most n h = leb→le _ _ (below (λ k. leb (length_in known k) longest_known) 64 tt n h)

pub known_longest : length_in known 0x03 ≡ longest_known
known_longest = refl

pub known_read : longest_known ≤ longest
known_read = leb→le longest_known longest tt

-- the lengths of the table are read and written
pub known_length : (t : ℕ) → (length_for t ≡ 0 → ⊥) → Length (length_for t)
known_length t h =
    let below_64 : number_of t < 64 = mod-lt t (lit< tt) in
    let e = length_number t h in
    let few : length_in known (number_of t) ≤ longest = le_trans (known_most (number_of t) below_64) known_read in
    record { some = omega arith; few = subst (λ n. n ≤ longest) (sym e) few }

-- a good message has a length that is read
pub good_length : (m : List ℕ) → check_of m ≡ 0 → length_ok (length m) ≡ true
good_length m h = ok_length (length m) (passed m h).sized

-- a good message has the length of its number
pub passed_number : (m : List ℕ) (n : ℕ) → Passed m → number_of (byte 1 m) ≡ n → length m ≡ length_in known n
passed_number m n p e = p.whole ∙ length_number (byte 1 m) p.known ∙ ap (length_in known) e

-- a message of a recognised number is good where its length and its values are
pub good : (m : List ℕ) → (length_for (byte 1 m) ≡ 0 → ⊥)
    → eqb (check_of m) 0 ≡ (eqb (length m) (length_for (byte 1 m)) && values_ok (number_of (byte 1 m)) m)
unfolding check_of
good m h =
    good_by (length_ok (length m)) (eqb (length_for (byte 1 m)) 0) (eqb (length m) (length_for (byte 1 m)))
    (values_ok (number_of (byte 1 m)) m) (λ e. h (eqb-true (length_for (byte 1 m)) 0 e))
    (λ e.
    let same = eqb-true (length m) (length_for (byte 1 m)) e in
    ok_length (length m) (subst Length (sym same) (known_length (byte 1 m) h)))

-- ---- checked values

-- each of some numbers has a property
abbrev pub All : (ℕ → Type 0) → List ℕ → Type 0
All P [] = Unit
All P (k ∷ []) = P k
All P (k ∷ j ∷ ks) = P k × All P (j ∷ ks)

-- so n has it, which is one of them
pub one_of : (P : ℕ → Type 0) (ks : List ℕ) (n : ℕ) → All P ks → OneOf ks n → P n
one_of P [] n p h = absurd h
one_of P (k ∷ []) n p e = subst P (sym e) p
one_of P (k ∷ j ∷ ks) n p (inl e) = subst P (sym e) p.0
one_of P (k ∷ j ∷ ks) n p (inr h) = one_of P (j ∷ ks) n p.1 h

not_among : (n : ℕ) (ks : List ℕ) → (OneOf ks n → ⊥) → among n ks ≡ false
not_among n [] h = refl
not_among n (k ∷ []) h = rw (ne_eqb n k h) refl
not_among n (k ∷ j ∷ ks) h = rw (ne_eqb n k (λ e. h (inl e))) (not_among n (j ∷ ks) (λ x. h (inr x)))

pub and-true : (t : Bool) → (t && true) ≡ t
and-true true = refl
and-true false = refl

-- the rule of each number, by the name of what it checks
module _ (m : List ℕ) where
  pub values_offset : (n : ℕ) → OneOf (0x05 ∷ 0x25 ∷ []) n → values_ok n m ≡ leb (byte 2 m) 240
  unfolding values_ok
  values_offset n = one_of (λ n. values_ok n m ≡ leb (byte 2 m) 240) (0x05 ∷ 0x25 ∷ []) n (simp and-true, simp and-true)

  pub values_partition : (n : ℕ) → OneOf (0x06 ∷ 0x26 ∷ []) n → values_ok n m ≡ leb (byte 2 m) 7
  unfolding values_ok
  values_partition n = one_of (λ n. values_ok n m ≡ leb (byte 2 m) 7) (0x06 ∷ 0x26 ∷ []) n (simp and-true, simp and-true)

  pub values_x10 : (n : ℕ) → OneOf (0x09 ∷ 0x29 ∷ []) n → values_ok n m ≡ x10_ok m
  unfolding values_ok
  values_x10 n = one_of (λ n. values_ok n m ≡ x10_ok m) (0x09 ∷ 0x29 ∷ []) n (simp and-true, simp and-true)

  pub values_key : (n : ℕ) → n ≡ 0x0B → values_ok n m ≡ leb (byte 3 m) 0x15
  unfolding values_ok
  values_key n e = rw e (simp and-true)

  pub values_keypad : (n : ℕ) → n ≡ 0x2B → values_ok n m ≡ eqb (byte 3 m) 0
  unfolding values_ok
  values_keypad n e = rw e (simp and-true)

  pub values_reply : (n : ℕ) → n ≡ 0x10 → values_ok n m ≡ (clear 5 (byte 3 m) && clear 7 (byte 3 m))
  unfolding values_ok
  values_reply n e = rw e (simp and-true)

  pub values_request : (n : ℕ) → n ≡ 0x30
      → values_ok n m ≡ (clear 4 (byte 3 m) && clear 5 (byte 3 m) && clear 7 (byte 3 m))
  unfolding values_ok
  values_request n e = rw e (simp and-true)

  pub values_command : (n : ℕ) → n ≡ 0x31 → values_ok n m ≡ (not (clear 5 (byte 3 m)) && clear 7 (byte 3 m))
  unfolding values_ok
  values_command n e = rw e (simp and-true)

  pub values_clock : (n : ℕ) → n ≡ 0x3B → values_ok n m ≡ clock_ok m
  unfolding values_ok
  values_clock n e = rw e (simp and-true)

  pub values_function_pin : (n : ℕ) → n ≡ 0x3C → values_ok n m ≡ leb (byte 5 m) 7
  unfolding values_ok
  values_function_pin n e = rw e (simp and-true)

  pub values_function : (n : ℕ) → n ≡ 0x3D → values_ok n m ≡ leb (byte 2 m) 7
  unfolding values_ok
  values_function n e = rw e (simp and-true)

  pub values_secondary : (n : ℕ) → n ≡ 0x3E → values_ok n m ≡ leb (byte 2 m) 0x0F
  unfolding values_ok
  values_secondary n e = rw e

  -- a number with no rule
  pub values_other : (n : ℕ)
      → (OneOf (0x05 ∷ 0x25 ∷ []) n → ⊥)
      → (OneOf (0x06 ∷ 0x26 ∷ []) n → ⊥)
      → (OneOf (0x09 ∷ 0x29 ∷ []) n → ⊥)
      → (OneOf (0x0B ∷ []) n → ⊥)
      → (OneOf (0x2B ∷ []) n → ⊥)
      → (OneOf (0x10 ∷ []) n → ⊥)
      → (OneOf (0x30 ∷ []) n → ⊥)
      → (OneOf (0x31 ∷ []) n → ⊥)
      → (OneOf (0x3B ∷ []) n → ⊥)
      → (OneOf (0x3C ∷ []) n → ⊥)
      → (OneOf (0x3D ∷ []) n → ⊥)
      → (OneOf (0x3E ∷ []) n → ⊥)
      → values_ok n m ≡ true
  unfolding values_ok
  values_other n a b c d e f g h i j k l =
      rw (
        not_among n (0x05 ∷ 0x25 ∷ []) a,
        not_among n (0x06 ∷ 0x26 ∷ []) b,
        not_among n (0x09 ∷ 0x29 ∷ []) c,
        not_among n (0x0B ∷ []) d,
        not_among n (0x2B ∷ []) e,
        not_among n (0x10 ∷ []) f,
        not_among n (0x30 ∷ []) g,
        not_among n (0x31 ∷ []) h,
        not_among n (0x3B ∷ []) i,
        not_among n (0x3C ∷ []) j,
        not_among n (0x3D ∷ []) k,
        not_among n (0x3E ∷ []) l,
      )

-- "offset at most 240", "partition at most 7": of a good message
pub passed_offset : (m : List ℕ) → Passed m → number_of (byte 1 m) ≡ 0x05 → byte 2 m ≤ 240
passed_offset m p e = leb-true (byte 2 m) 240 (sym (values_offset m (number_of (byte 1 m)) (inl e)) ∙ p.valued)

pub passed_partition : (m : List ℕ) → Passed m → number_of (byte 1 m) ≡ 0x06 → byte 2 m ≤ 7
passed_partition m p e = leb-true (byte 2 m) 7 (sym (values_partition m (number_of (byte 1 m)) (inl e)) ∙ p.valued)

-- A GOOD MESSAGE HAS AT MOST 18 BYTES: it is one of the 41
pub good_few : (m : List ℕ) → check_of m ≡ 0 → length m ≤ longest_known
good_few m h =
    let n = number_of (byte 1 m) in
    let few = known_most n (mod-lt (byte 1 m) (lit< tt)) in
    subst (λ k. k ≤ longest_known) (sym (passed_number m n (passed m h) refl)) few

-- ---- which lengths are read

-- "Lengths 1 to 255 are now read"
pub length_read : (n : ℕ) → not (length_ok n) ≡ (eqb n 0 || ltb 255 n)
length_read zero = refl
length_read (suc n) = by_size (leb (suc n) 255) refl
  where
    by_size : (t : Bool) → leb (suc n) 255 ≡ t → not (length_ok (suc n)) ≡ (eqb (suc n) 0 || ltb 255 (suc n))
    by_size true h =
        let few = leb-true (suc n) 255 h in
        rw (h, le-leb 1 (suc n) (omega arith), ne_eqb (suc n) 0 (λ e. omega arith), le-ltb 255 (suc n) few)
    by_size false h =
        let many = leb-false (suc n) 255 h in
        rw (h, le-leb 1 (suc n) (omega arith), ne_eqb (suc n) 0 (λ e. omega arith), lt-ltb 255 (suc n) many)

-- of a frame's length byte: "Verdict 4 remains for length 0"
pub length_byte : (n : ℕ) → n < 256 → length_ok n ≡ not (eqb n 0)
length_byte n h =
    twice (length_ok n) (eqb n 0)
    (length_read n ∙ ap (λ t. eqb n 0 || t) (le-ltb 255 n (omega arith)))
  where
    twice : (s t : Bool) → not s ≡ (t || false) → s ≡ not t
    twice true false e = refl
    twice false true e = refl
    twice true true e = absurd (false≢true e)
    twice false false e = absurd (false≢true (sym e))

-- of a message: "4 for an empty message or one above 255"
pub check_four : (m : List ℕ) → eqb (check_of m) 4 ≡ (eqb (length m) 0 || ltb 255 (length m))
unfolding check_of
check_four m =
    four_by (not (length_ok (length m))) (not (not (eqb (length_for (byte 1 m)) 0)))
    (not (eqb (length m) (length_for (byte 1 m))))
    (not (values_ok (number_of (byte 1 m)) m))
    ∙ length_read (length m)
  where
    four_by : (a b c d : Bool) → eqb (first_of ((a, 4) ∷ (b, 6) ∷ (c, 7) ∷ (d, 8) ∷ [])) 4 ≡ a
    four_by true b c d = refl
    four_by false true c d = refl
    four_by false false true d = refl
    four_by false false false true = refl
    four_by false false false false = refl

-- one that is read and has a number of none of the 41
pub check_six : (m : List ℕ) → length_ok (length m) ≡ true → length_for (byte 1 m) ≡ 0 → check_of m ≡ 6
unfolding check_of
check_six m h unknown = rw (h, unknown)

-- ---- the length as code says it

pub asked_none : (t : ℕ) → length_asked t ≡ None → length_for t ≡ 0
asked_none t = go (eqb (length_for t) 0) refl
  where
    go : (b : Bool) → eqb (length_for t) 0 ≡ b → cond (not b) (Some (length_for t)) None ≡ None → length_for t ≡ 0
    go true e h = eqb-true _ _ e
    go false e h = absurd (none-some _ (sym h))

-- a length that is asked, which is never 0
pub record Asked (t n : ℕ) : Type 0 where
  pub is : length_for t ≡ n
  pub some : length_for t ≡ 0 → ⊥

pub asked_some : (t n : ℕ) → length_asked t ≡ Some n → Asked t n
asked_some t n h =
    let (is_asked, same) = cond_some (recognised t) (length_for t) n h in
    record { is = same; some = λ e. true≢false (sym is_asked ∙ ap (λ b. not b) (eq-eqb _ _ e)) }

pub asked_is : (t : ℕ) → is_some (length_asked t) ≡ recognised t
asked_is t = go (recognised t)
  where
    go : (b : Bool) → is_some (cond b (Some (length_for t)) None) ≡ b
    go true = refl
    go false = refl
