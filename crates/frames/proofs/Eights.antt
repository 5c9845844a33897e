-- Two and eight digits of an ASCII frame are one and four of its bytes. Assumes nothing.
use Rattle.std.proofs.Common.{◌≡◌, ℕ, ◌+◌, ◌*◌, ◌/◌, ◌%◌, ◌<◌, ◌≤◌, ◌^◌, zero, suc, true, false, eqb, List, [], ◌∷◌, length, get_or, take, sym, refl, ap, ◌∙◌, arith}
use Rattle.std.specs.Prelude.{Some, None, slice_get}
use Rattle.std.specs.Int.{w16, w64, from_le_bytes}
use lib.Bits.{bit_and}
use mathlib.Core.Option.{Option as Maybe, none, some}
use Rattle.standard.specs.declared.Framing.TheVariants.{Ascii}
use Rattle.standard.specs.Words.{Bytes}
use Rattle.standard.specs.Framing.{value_of, digits_of, and_digit, pairs}
use Rattle.standard.proofs.Framings.{digit_value}
use Rattle.frames.specs.Plain.{or_none, digit_in, plain_of}
use Rattle.frames.proofs.Lanes.{lanes, Looked, AllDigits, looked_digits, looked_worth, looked_other, sent_of, pairing, low, first_pair, other_pairs}

-- the byte of two digits, "high digit first"
abbrev pub both : ℕ → ℕ → ℕ
both c d = digit_in c * 16 + digit_in d

-- it comes, where they are digits
both_come : (c d : ℕ) (bs : List ℕ) → digit_in c < 16 → digit_in d < 16
    → plain_of Ascii (c ∷ d ∷ bs) ≡ both c d ∷ plain_of Ascii bs
unfolding pairs digits_of
both_come c d bs h l = by_values (value_of c) (value_of d) h l
  where
    by_values : (v w : Maybe ℕ) → or_none v < 16 → or_none w < 16
        → pairs (and_digit v (and_digit w (digits_of bs))) ≡ (or_none v * 16 + or_none w) ∷ pairs (digits_of bs)
    by_values none w h l = absurd (omega arith)
    by_values (some x) none h l = absurd (omega arith)
    by_values (some x) (some y) h l = refl

-- and none, where they are not
none_come : (c d : ℕ) (bs : List ℕ) → (digit_in c < 16 → digit_in d < 16 → ⊥) → plain_of Ascii (c ∷ d ∷ bs) ≡ []
unfolding pairs digits_of
none_come c d bs not = by_values (value_of c) (value_of d) refl refl
  where
    by_values : (v w : Maybe ℕ) → value_of c ≡ v → value_of d ≡ w
        → pairs (and_digit v (and_digit w (digits_of bs))) ≡ []
    by_values none w e k = refl
    by_values (some x) none e k = refl
    by_values (some x) (some y) e k =
        absurd (not (omega (arith, ap or_none e, (digit_value c x e).small)) (omega (arith, ap or_none k, (digit_value d y k).small)))

-- ---- as code looks at them: n has them all, and v what they are worth

bytes_take : (k : ℕ) (l : List ℕ) → Bytes l → Bytes (take k l)
bytes_take zero l b i = omega arith
bytes_take (suc k) [] b i = omega arith
bytes_take (suc k) (x ∷ l) b zero = b 0
bytes_take (suc k) (x ∷ l) b (suc i) = bytes_take k l (λ i. b (suc i)) i

abbrev pub Two : List ℕ → ℕ → ℕ → Type 0
Two bs n v = Looked (take 2 bs) n 0x0101 v

pub two_looked : (bs : List ℕ) (n v : ℕ) → Bytes bs → 2 ≤ length bs → n ≡ from_le_bytes w16 (take 2 bs)
    → v ≡ bit_and (bit_and n (0x0101 * 15) + bit_and n (0x0101 * 64) / 64 * 9) (0x0101 * 15) → Two bs n v
unfolding lanes
two_looked [] n v b h is w = absurd (omega arith)
two_looked (c ∷ []) n v b h is w = absurd (omega arith)
two_looked (c ∷ d ∷ bs) n v b h is w = record {
  bytes = bytes_take 2 (c ∷ d ∷ bs) b;
  number = omega (arith, is);
  one = refl;
  worth = w;
}

pair_worth : (c d : ℕ) → digit_in c < 16 → digit_in d < 16
    → lanes digit_in (c ∷ d ∷ []) % 256 * 16 + lanes digit_in (c ∷ d ∷ []) / 256 ≡ both c d
unfolding lanes
pair_worth c d h l = omega arith

pub two_worth : (bs : List ℕ) (n v : ℕ) → Two bs n v → 2 ≤ length bs → eqb (sent_of n 0x0101 v) n ≡ true
    → Some (v % 256 * 16 + v / 256) ≡ slice_get (plain_of Ascii bs) 0
two_worth [] n v l k t = absurd (omega arith)
two_worth (c ∷ []) n v l k t = absurd (omega arith)
two_worth (c ∷ d ∷ bs) n v l k t =
    let high = looked_digits l t 0 (omega arith) in
    let low = looked_digits l t 1 (omega arith) in
    rw (looked_worth l t, pair_worth c d high low, both_come c d bs high low)

pub two_few : (bs : List ℕ) (n v : ℕ) → Two bs n v → 2 ≤ length bs → eqb (sent_of n 0x0101 v) n ≡ true
    → v % 256 * 16 + v / 256 < 256
two_few [] n v l k t = absurd (omega arith)
two_few (c ∷ []) n v l k t = absurd (omega arith)
two_few (c ∷ d ∷ bs) n v l k t =
    let high = looked_digits l t 0 (omega arith) in
    let low = looked_digits l t 1 (omega arith) in
    rw (looked_worth l t, pair_worth c d high low) (omega arith)

pub two_other : (bs : List ℕ) (n v : ℕ) → Two bs n v → 2 ≤ length bs → eqb (sent_of n 0x0101 v) n ≡ false
    → None ≡ slice_get (plain_of Ascii bs) 0
two_other [] n v l k t = absurd (omega arith)
two_other (c ∷ []) n v l k t = absurd (omega arith)
two_other (c ∷ d ∷ bs) n v l k t = ap (λ p. slice_get p 0) (sym (none_come c d bs (λ h j. looked_other l t (digits h j))))
  where
    digits : digit_in c < 16 → digit_in d < 16 → AllDigits (c ∷ d ∷ [])
    digits h j zero i = h
    digits h j (suc zero) i = j
    digits h j (suc (suc k)) i = absurd (omega arith)

abbrev pub Eight : List ℕ → ℕ → ℕ → Type 0
Eight bs n v = Looked (take 8 bs) n 0x0101010101010101 v

-- the four bytes of eight digits, each the lower half of its sixteen bits
abbrev pub four : ℕ → List ℕ
four n = n % 256 ∷ (n / 256 ^ 2 % 256) ∷ (n / 256 ^ 4 % 256) ∷ (n / 256 ^ 6 % 256) ∷ []

pub eight_looked : (bs : List ℕ) (n v : ℕ) → Bytes bs → 8 ≤ length bs → n ≡ from_le_bytes w64 (take 8 bs)
    → v ≡ bit_and
    (bit_and n (0x0101010101010101 * 15) + bit_and n (0x0101010101010101 * 64) / 64 * 9)
    (0x0101010101010101 * 15) → Eight bs n v
unfolding lanes
eight_looked (c₁ ∷ d₁ ∷ c₂ ∷ d₂ ∷ c₃ ∷ d₃ ∷ c₄ ∷ d₄ ∷ bs) n v b h is w = record {
  bytes = bytes_take 8 (c₁ ∷ d₁ ∷ c₂ ∷ d₂ ∷ c₃ ∷ d₃ ∷ c₄ ∷ d₄ ∷ bs) b;
  number = omega (arith, is);
  one = refl;
  worth = w;
}
eight_looked bs n v b h is w = absurd (omega arith)

-- the byte of the first two digits, and the others
after_two : (c d : ℕ) (cs : List ℕ) (n : ℕ) → n ≡ pairing (lanes digit_in (c ∷ d ∷ cs)) → digit_in c < 16
    → digit_in d < 16
    → lanes digit_in cs % 256 < 16 → (n % 256 ≡ both c d) × (n / 0x10000 ≡ pairing (lanes digit_in cs))
after_two c d cs n is h l k =
    (ap (λ n. n % 256) is ∙ first_pair c d cs h l, ap (λ n. n / 0x10000) is ∙ other_pairs c d cs h l k)

pub eight_worth : (bs : List ℕ) (n v : ℕ) → Eight bs n v → 8 ≤ length bs
    → eqb (sent_of n 0x0101010101010101 v) n ≡ true → four (pairing v) ≡ take 4 (plain_of Ascii bs)
eight_worth (c₁ ∷ d₁ ∷ c₂ ∷ d₂ ∷ c₃ ∷ d₃ ∷ c₄ ∷ d₄ ∷ bs) n v l k t =
    let digit : (k : ℕ) → k < 8 → digit_in (get_or (c₁ ∷ d₁ ∷ c₂ ∷ d₂ ∷ c₃ ∷ d₃ ∷ c₄ ∷ d₄ ∷ []) k 0) < 16 = looked_digits l t in
    let h₁ = digit 0 (omega arith) in
    let l₁ = digit 1 (omega arith) in
    let h₂ = digit 2 (omega arith) in
    let l₂ = digit 3 (omega arith) in
    let h₃ = digit 4 (omega arith) in
    let l₃ = digit 5 (omega arith) in
    let h₄ = digit 6 (omega arith) in
    let l₄ = digit 7 (omega arith) in
    let n₁ = pairing v in
    let one = after_two c₁ d₁ (c₂ ∷ d₂ ∷ c₃ ∷ d₃ ∷ c₄ ∷ d₄ ∷ []) n₁ (ap pairing (looked_worth l t)) h₁ l₁ (low c₂ _ h₂) in
    let two = after_two c₂ d₂ (c₃ ∷ d₃ ∷ c₄ ∷ d₄ ∷ []) (n₁ / 0x10000) one.1 h₂ l₂ (low c₃ _ h₃) in
    let three = after_two c₃ d₃ (c₄ ∷ d₄ ∷ []) (n₁ / 0x10000 / 0x10000) two.1 h₃ l₃ (low c₄ _ h₄) in
    let last = ap (λ n. n % 256) three.1 ∙ first_pair c₄ d₄ [] h₄ l₄ in
    rw (
      both_come c₁ d₁ (c₂ ∷ d₂ ∷ c₃ ∷ d₃ ∷ c₄ ∷ d₄ ∷ bs) h₁ l₁,
      both_come c₂ d₂ (c₃ ∷ d₃ ∷ c₄ ∷ d₄ ∷ bs) h₂ l₂,
      both_come c₃ d₃ (c₄ ∷ d₄ ∷ bs) h₃ l₃,
      both_come c₄ d₄ bs h₄ l₄,
    )
    (four_is n₁ _ _ _ _ one.0 two.0 three.0 last)
  where
    four_is : (n a b c d : ℕ) → n % 256 ≡ a → n / 0x10000 % 256 ≡ b → n / 0x10000 / 0x10000 % 256 ≡ c
        → n / 0x10000 / 0x10000 / 0x10000 % 256 ≡ d → four n ≡ a ∷ b ∷ c ∷ d ∷ []
    four_is n a b c d p q r s =
        let c' : n / 256 ^ 4 % 256 ≡ c = omega arith in
        let d' : n / 256 ^ 6 % 256 ≡ d = omega arith in
        cc
eight_worth bs n v l k t = absurd (omega arith)

-- fewer than two characters are no byte
pub too_few : (bytes : List ℕ) → length bytes < 2 → None ≡ slice_get (plain_of Ascii bytes) 0
unfolding pairs digits_of
too_few [] h = refl
too_few (c ∷ []) h = by_value (value_of c)
  where
    by_value : (v : Maybe ℕ) → None ≡ slice_get (pairs (and_digit v [])) 0
    by_value none = refl
    by_value (some d) = refl
too_few (c ∷ d ∷ bytes) h = absurd (omega arith)
