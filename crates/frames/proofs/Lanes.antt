-- Characters side by side in one number, each in eight bits of it, the first the lowest: what is done to the number is
-- done to each of them. One law for any number of characters. Assumes nothing.
use Rattle.std.proofs.Common.{◌≡◌, ℕ, zero, suc, ◌+◌, ◌*◌, ◌/◌, ◌%◌, ◌<◌, ◌≤◌, true, false, cond, T, eqb, ltb, List, [], ◌∷◌, length, get_or, sym, refl, ap, ◌∙◌, subst, ap₂, mul_assoc, mul_comm, add-mul, arith, eqb→eq, ltb-true, lt-ltb, eq-eqb, eqb-true}
use lib.Arith.{digits_mod}
use lib.Bits.{bit_and, and_block, and_le_r}
use borrow.Author.Tests.{eqb-false}
use Rattle.standard.specs.Words.{Bytes}
use Rattle.standard.proofs.Tables.{below, alike}
use Rattle.frames.specs.Plain.{digit_in}

-- the number that has f of each character
unfoldable pub lanes : (ℕ → ℕ) → List ℕ → ℕ
lanes f [] = 0
lanes f (c ∷ cs) = lanes f cs * 256 + f c

-- ---- what is done to the number

same : (f g : ℕ → ℕ) (cs : List ℕ) → ((i : ℕ) → i < length cs → f (get_or cs i 0) ≡ g (get_or cs i 0))
    → lanes f cs ≡ lanes g cs
unfolding lanes
same f g [] h = refl
same f g (c ∷ cs) h = ap₂ (λ a x. a * 256 + x) (same f g cs (λ i k. h (suc i) (omega arith))) (h 0 (omega arith))

sum : (f g : ℕ → ℕ) (cs : List ℕ) → lanes f cs + lanes g cs ≡ lanes (λ c. f c + g c) cs
unfolding lanes
sum f g [] = refl
sum f g (c ∷ cs) = omega (arith, sum f g cs)

times : (f : ℕ → ℕ) (k : ℕ) (cs : List ℕ) → lanes f cs * k ≡ lanes (λ c. f c * k) cs
unfolding lanes
times f k [] = omega arith
times f k (c ∷ cs) =
    add-mul (lanes f cs * 256) (f c) k
    ∙ ap (λ n. n + f c * k)
    (mul_assoc (lanes f cs) 256 k ∙ ap (λ n. lanes f cs * n) (mul_comm 256 k) ∙ sym (mul_assoc (lanes f cs) k 256)
    ∙ ap (λ n. n * 256) (times f k cs))

both : (f g : ℕ → ℕ) (cs : List ℕ) → ((i : ℕ) → f (get_or cs i 0) < 256) → ((i : ℕ) → g (get_or cs i 0) < 256)
    → bit_and (lanes f cs) (lanes g cs) ≡ lanes (λ c. bit_and (f c) (g c)) cs
unfolding lanes
both f g [] h j = refl
both f g (c ∷ cs) h j =
    and_block 8 (lanes f cs) (lanes g cs) (f c) (g c) (h 0) (j 0)
    ∙ ap (λ a. a * 256 + bit_and (f c) (g c)) (both f g cs (λ i. h (suc i)) (λ i. j (suc i)))

-- two are the same only if each is
all_same : (f g : ℕ → ℕ) (cs : List ℕ) → ((i : ℕ) → f (get_or cs i 0) < 256) → ((i : ℕ) → g (get_or cs i 0) < 256)
    → lanes f cs ≡ lanes g cs → (i : ℕ) → i < length cs → f (get_or cs i 0) ≡ g (get_or cs i 0)
unfolding lanes
all_same f g [] h j e i k = absurd (omega arith)
all_same f g (c ∷ cs) h j e zero k = omega (arith, h 0, j 0, e)
all_same f g (c ∷ cs) h j e (suc i) k =
    all_same f g cs (λ i. h (suc i)) (λ i. j (suc i)) (omega (arith, h 0, j 0, e)) i (omega arith)

-- ---- one character

-- its low four bits, and 9 more for a letter
abbrev value_of : ℕ → ℕ
value_of c = bit_and c 15 + bit_and c 64 / 64 * 9

-- what it is worth if it is a digit
abbrev value : ℕ → ℕ
value c = bit_and (value_of c) 15

-- how a digit of that value is sent
abbrev sent : ℕ → ℕ
sent c = bit_and c 15 + 48 + bit_and (value c + 6) 16

-- each of these is computed for all 256 bytes
sent_digit : (c : ℕ) → c < 256 → eqb (sent c) c ≡ ltb (digit_in c) 16
sent_digit = alike (λ c. eqb (sent c) c) (λ c. ltb (digit_in c) 16) 256 tt

value_or : (c : ℕ) → c < 256 → T (cond (ltb (digit_in c) 16) (eqb (value c) (digit_in c)) true)
value_or = below (λ c. cond (ltb (digit_in c) 16) (eqb (value c) (digit_in c)) true) 256 tt

bit_six : (c : ℕ) → c < 256 → bit_and c 64 ≡ bit_and c 64 / 64 * 64
bit_six c h =
    eqb→eq (bit_and c 64) (bit_and c 64 / 64 * 64) (below (λ c. eqb (bit_and c 64) (bit_and c 64 / 64 * 64)) 256 tt c h)

value_digit : (c : ℕ) → c < 256 → digit_in c < 16 → value c ≡ digit_in c
value_digit c h d =
    eqb→eq (value c) (digit_in c)
    (subst (λ t. T (cond t (eqb (value c) (digit_in c)) true)) (lt-ltb (digit_in c) 16 d) (value_or c h))

-- none of them leaves its eight bits
value_few : (c : ℕ) → value c ≤ 15
value_few c = and_le_r (value_of c) 15

value_of_few : (c : ℕ) → value_of c < 256
value_of_few c = omega (arith, and_le_r c 15, and_le_r c 64)

sent_few : (c : ℕ) → sent c < 256
sent_few c = omega (arith, and_le_r c 15, and_le_r (value c + 6) 16)

-- ---- all characters

abbrev pub AllDigits : List ℕ → Type 0
AllDigits cs = (i : ℕ) → i < length cs → digit_in (get_or cs i 0) < 16

module _ (cs : List ℕ) (bytes : Bytes cs) where
  -- their number, and 1 in the place of each
  abbrev characters : ℕ
  characters = lanes (λ c. c) cs

  abbrev ones : ℕ
  ones = lanes (λ c. 1) cs

  each : (k : ℕ) → ones * k ≡ lanes (λ c. k) cs
  each k = times (λ c. 1) k cs ∙ same (λ c. 1 * k) (λ c. k) cs (λ i h. omega arith)

  masked : (f : ℕ → ℕ) (k : ℕ) → ((i : ℕ) → f (get_or cs i 0) < 256) → k < 256
      → bit_and (lanes f cs) (ones * k) ≡ lanes (λ c. bit_and (f c) k) cs
  masked f k h j = ap (bit_and (lanes f cs)) (each k) ∙ both f (λ c. k) cs h (λ i. j)

  six : lanes (λ c. bit_and c 64) cs / 64 ≡ lanes (λ c. bit_and c 64 / 64) cs
  six =
      let e = same (λ c. bit_and c 64) (λ c. bit_and c 64 / 64 * 64) cs (λ i h. bit_six (get_or cs i 0) (bytes i))
      ∙ sym (times (λ c. bit_and c 64 / 64) 64 cs) in
      omega (arith, e)

  -- what they are worth
  values : bit_and (bit_and characters (ones * 15) + bit_and characters (ones * 64) / 64 * 9) (ones * 15)
      ≡ lanes value cs
  values =
      let low = masked (λ c. c) 15 bytes (omega arith) in
      let of = ap₂ (λ a b. a + b / 64 * 9) low (masked (λ c. c) 64 bytes (omega arith))
      ∙ ap (λ b. lanes (λ c. bit_and c 15) cs + b * 9) six
      ∙ ap (λ b. lanes (λ c. bit_and c 15) cs + b) (times (λ c. bit_and c 64 / 64) 9 cs)
      ∙ sum (λ c. bit_and c 15) (λ c. bit_and c 64 / 64 * 9) cs in
      ap (λ n. bit_and n (ones * 15)) of ∙ masked value_of 15 (λ i. value_of_few (get_or cs i 0)) (omega arith)

  -- how they would be sent
  sents : bit_and characters (ones * 15) + ones * 48 + bit_and (lanes value cs + ones * 6) (ones * 16) ≡ lanes sent cs
  sents =
      let low = masked (λ c. c) 15 bytes (omega arith) in
      let begun = ap₂ ◌+◌ low (each 48) ∙ sum (λ c. bit_and c 15) (λ c. 48) cs in
      let six-more = ap (λ n. lanes value cs + n) (each 6) ∙ sum value (λ c. 6) cs in
      let more = ap (λ n. bit_and n (ones * 16)) six-more
      ∙ masked (λ c. value c + 6) 16 (λ i. omega (arith, value_few (get_or cs i 0))) (omega arith) in
      ap₂ ◌+◌ begun more ∙ sum (λ c. bit_and c 15 + 48) (λ c. bit_and (value c + 6) 16) cs

  -- they are, exactly if all are digits
  digits : lanes sent cs ≡ characters → AllDigits cs
  digits e i h =
      let c = get_or cs i 0 in
      let is = all_same sent (λ c. c) cs (λ i. sent_few (get_or cs i 0)) bytes e i h in
      ltb-true (digit_in c) 16 (sym (sent_digit c (bytes i)) ∙ eq-eqb (sent c) c is)

  digits_sent : AllDigits cs → lanes sent cs ≡ characters
  digits_sent d =
      same sent (λ c. c) cs
      (λ i h. let c = get_or cs i 0 in eqb-true (sent c) c (sent_digit c (bytes i) ∙ lt-ltb (digit_in c) 16 (d i h)))

  -- and they are worth their digits
  worths : AllDigits cs → lanes value cs ≡ lanes digit_in cs
  worths d = same value digit_in cs (λ i h. value_digit (get_or cs i 0) (bytes i) (d i h))

-- ---- pairs of digits

-- every two neighbours as a byte, "high digit first"
abbrev pub pairing : ℕ → ℕ
pairing v = v * 16 + v / 256

pair_low : (a d e : ℕ) → d < 16 → e < 16 → pairing ((a * 256 + e) * 256 + d) % 256 ≡ d * 16 + e
pair_low a d e h k =
    let rest : ((a * 256 + e) * 256 + d) / 256 ≡ a * 256 + e = omega arith in
    let split : pairing ((a * 256 + e) * 256 + d) ≡ ((a * 256 + e) * 16 + a) * 256 + (d * 16 + e) = omega arith in
    ap (λ n. n % 256) split ∙ digits_mod ((a * 256 + e) * 16 + a) (omega arith)

pair_rest : (a d e : ℕ) → d < 16 → e < 16 → a % 256 < 16
    → pairing ((a * 256 + e) * 256 + d) / 0x10000 ≡ pairing a
pair_rest a d e h k l = omega arith

-- the digits of some characters, and of those after the first two
pub low : (c : ℕ) (cs : List ℕ) → digit_in c < 16 → lanes digit_in (c ∷ cs) % 256 < 16
unfolding lanes
low c cs h =
    let small : digit_in c < 256 = omega arith in
    omega (arith, digits_mod (lanes digit_in cs) small)

pub first_pair : (c d : ℕ) (cs : List ℕ) → digit_in c < 16 → digit_in d < 16
    → pairing (lanes digit_in (c ∷ d ∷ cs)) % 256 ≡ digit_in c * 16 + digit_in d
unfolding lanes
first_pair c d cs h k = pair_low (lanes digit_in cs) (digit_in c) (digit_in d) h k

pub other_pairs : (c d : ℕ) (cs : List ℕ) → digit_in c < 16 → digit_in d < 16 → lanes digit_in cs % 256 < 16
    → pairing (lanes digit_in (c ∷ d ∷ cs)) / 0x10000 ≡ pairing (lanes digit_in cs)
unfolding lanes
other_pairs c d cs h k l = pair_rest (lanes digit_in cs) (digit_in c) (digit_in d) h k l

-- ---- as code looks at them

-- some characters' number w, with o for 1 in the place of each, and v for what they are worth
pub record Looked (cs : List ℕ) (w o v : ℕ) : Type 0 where
  pub bytes : Bytes cs
  pub number : w ≡ lanes (λ c. c) cs
  pub one : o ≡ lanes (λ c. 1) cs
  pub worth : v ≡ bit_and (bit_and w (o * 15) + bit_and w (o * 64) / 64 * 9) (o * 15)

-- how they would be sent
abbrev pub sent_of : ℕ → ℕ → ℕ → ℕ
sent_of w o v = bit_and w (o * 15) + o * 48 + bit_and (v + o * 6) (o * 16)

module _ {cs : List ℕ} {w o v : ℕ} (l : Looked cs w o v) where
  is_values : v ≡ lanes value cs
  is_values =
      l.worth ∙ ap₂ (λ w o. bit_and (bit_and w (o * 15) + bit_and w (o * 64) / 64 * 9) (o * 15)) l.number l.one
      ∙ values cs l.bytes

  is_sent : sent_of w o v ≡ lanes sent cs
  is_sent =
      ap₂ (λ w o. sent_of w o v) l.number l.one
      ∙ ap (sent_of (lanes (λ c. c) cs) (lanes (λ c. 1) cs)) is_values ∙ sents cs l.bytes

  -- they pass: all are digits, and v is what these are worth
  pub looked_digits : eqb (sent_of w o v) w ≡ true → AllDigits cs
  looked_digits t = digits cs l.bytes (sym is_sent ∙ eqb-true (sent_of w o v) w t ∙ l.number)

  pub looked_worth : eqb (sent_of w o v) w ≡ true → v ≡ lanes digit_in cs
  looked_worth t = is_values ∙ worths cs l.bytes (looked_digits t)

  -- they do not pass: one is none
  pub looked_other : eqb (sent_of w o v) w ≡ false → AllDigits cs → ⊥
  looked_other t d = eqb-false (sent_of w o v) w t (is_sent ∙ digits_sent cs l.bytes d ∙ sym l.number)
