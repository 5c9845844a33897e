-- Laws of the two framings, each over both: what was coded is recovered, whatever follows it; what is coded holds
-- neither start nor stop. Assumes nothing.
use Prim.Native.Nat.{ℕ, zero, suc, ◌+◌, ◌-◌, ◌*◌, ◌/◌, ◌%◌, ◌≤◌, ◌<◌}
use native.Mathlib.Nat.{div-add-mod'}
use native.Mathlib.Numerals.{add-one}
use native.Mathlib.Omega.{arith}
use mathlib.Core.Path.{◌≡◌, refl, sym, ap, ap₂, ◌∙◌}
use mathlib.Core.Bool.{Bool, true, false, cond, ◌&&◌, ◌||◌}
use mathlib.Core.Option.{Option, none, some}
use mathlib.Core.List.{List, [], ◌∷◌, ◌++◌, flat_map, append-nil, append_assoc}
use lib.Dec.{eqb, ltb, leb, leb-suc-suc, lit≤}
use lib.ListN.{length, get_or, take, length-append}
use lib.Arith.{digits_div, digits_mod}
use lib.Seq.{take-suc}
use borrow.Author.Tests.{eqb-true, eqb-false, ltb-true, ltb-false, leb-true, lt-ltb, le-ltb, ne_eqb, le-leb, lt-leb}
use Rattle.standard.specs.declared.Framing.{Framing}
use Rattle.standard.specs.declared.Framing.TheVariants.{Binary, Ascii}
use Rattle.standard.specs.declared.Escapes.{Escapes}
use Rattle.standard.specs.declared.Escapes.TheVariants.{Strict, Lenient}
pub use Rattle.standard.specs.Words.{Bytes}
use Rattle.standard.specs.Sums.{sums_of}
use Rattle.standard.specs.Messages.{length_ok, among}
use Rattle.standard.specs.Framing.{start_of, stuffed, digit, two_digits, coded, coding, body_of}
use Rattle.standard.specs.Framing.{Recovered, also, unstuff, value_of, and_digit, digits_of, pairs, recovered}
use Rattle.standard.proofs.Sum.{sums_small}
use Rattle.standard.proofs.Messages.{both_true, length_ok_lem}

pub bytes_none : Bytes []
bytes_none i = lit≤ tt

pub bytes_cons : (b : ℕ) (bs : List ℕ) → b < 256 → Bytes bs → Bytes (b ∷ bs)
bytes_cons b bs h q zero = h
bytes_cons b bs h q (suc i) = q i

pub bytes_append : (a b : List ℕ) → Bytes a → Bytes b → Bytes (a ++ b)
bytes_append [] b p q i = q i
bytes_append (x ∷ a) b p q zero = p zero
bytes_append (x ∷ a) b p q (suc i) = bytes_append a b (λ k. p (suc k)) q i

pub bytes_front : (a b : List ℕ) → Bytes (a ++ b) → Bytes a
bytes_front [] b h i = bytes_none i
bytes_front (x ∷ a) b h zero = h zero
bytes_front (x ∷ a) b h (suc i) = bytes_front a b (λ k. h (suc k)) i

-- ---- coding, byte by byte

-- how a byte is sent in binary: 7Eh and 7Dh behind an escape, any other as it is
pub data Sent : ℕ → List ℕ → Type 0 where
  start_escaped : Sent 0x7E (0x7D ∷ 0x5E ∷ [])
  escape_escaped : Sent 0x7D (0x7D ∷ 0x5D ∷ [])
  as_it_is : (b : ℕ) → eqb b 0x7E ≡ false → eqb b 0x7D ≡ false → Sent b (b ∷ [])

pub sent : (b : ℕ) → Sent b (stuffed b)
sent b = go (eqb b 0x7E) refl (eqb b 0x7D) refl
  where
    go : (s : Bool) → eqb b 0x7E ≡ s → (t : Bool) → eqb b 0x7D ≡ t
        → Sent b (cond s (0x7D ∷ 0x5E ∷ []) (cond t (0x7D ∷ 0x5D ∷ []) (b ∷ [])))
    go true e t k = rw (eqb-true b 0x7E e) start_escaped
    go false e true k = rw (eqb-true b 0x7D k) escape_escaped
    go false e false k = as_it_is b e k

-- a digit's character: 30h at least
digit_between : (d : ℕ) → (48 ≤ digit d) × (digit d ≤ 55 + d)
digit_between d = go (ltb d 10)
  where
    go : (t : Bool) → (48 ≤ cond t (48 + d) (55 + d)) × (cond t (48 + d) (55 + d) ≤ 55 + d)
    go true = (omega arith, omega arith)
    go false = (omega arith, omega arith)

pub coding_append : (f : Framing) (a b : List ℕ) → coding f (a ++ b) ≡ coding f a ++ coding f b
unfolding coding flat_map
coding_append f [] b = refl
coding_append f (x ∷ a) b =
    ap (λ (l : List ℕ). coded f x ++ l) (coding_append f a b) ∙ sym (append_assoc (coded f x) (coding f a) (coding f b))

-- the turn of a loop that codes: one more byte
pub coding_more : (f : Framing) (bs : List ℕ) (i : ℕ) → i < length bs
    → coding f (take i bs) ++ coded f (get_or bs i 0) ≡ coding f (take (i + 1) bs)
unfolding coding flat_map
coding_more f bs i h =
    sym
    (ap (coding f) (ap (λ (n : ℕ). take n bs) (add-one i) ∙ take-suc bs i 0 h)
    ∙ coding_append f (take i bs) (get_or bs i 0 ∷ [])
    ∙ ap (λ (l : List ℕ). coding f (take i bs) ++ l) (append-nil (coded f (get_or bs i 0))))

-- a coded byte has one or two characters
pub record OneOrTwo (l : List ℕ) : Type 0 where
  pub some : 1 ≤ length l
  pub few : length l ≤ 2

sent_one_or_two : (b : ℕ) (l : List ℕ) → Sent b l → OneOrTwo l
sent_one_or_two b l start_escaped = record { some = lit≤ tt; few = lit≤ tt }
sent_one_or_two b l escape_escaped = record { some = lit≤ tt; few = lit≤ tt }
sent_one_or_two b l (as_it_is b' e k) = record { some = lit≤ tt; few = lit≤ tt }

pub coded_one_or_two : (f : Framing) (b : ℕ) → OneOrTwo (coded f b)
coded_one_or_two Binary b = sent_one_or_two b (stuffed b) (sent b)
coded_one_or_two Ascii b = record { some = lit≤ tt; few = lit≤ tt }

-- so some bytes have at most twice as many
pub coding_few : (f : Framing) (bs : List ℕ) → length (coding f bs) ≤ 2 * length bs
unfolding coding flat_map
coding_few f [] = lit≤ tt
coding_few f (b ∷ bs) =
    let one = coded_one_or_two f b in
    let rest = coding_few f bs in
    rw length-append (omega arith)

-- two characters each in ASCII
pub ascii_length : (bs : List ℕ) → length (coding Ascii bs) ≡ 2 * length bs
unfolding coding flat_map
ascii_length [] = refl
ascii_length (b ∷ bs) = let rest = ascii_length bs in omega arith

-- length byte, message, two sums
pub body_length : (m : List ℕ) → length (body_of m) ≡ length m + 3
body_length m = rw length-append (omega arith)

-- ---- recovering

-- a digit is read as it was written
pub value_digit : (d : ℕ) → d < 16 → value_of (digit d) ≡ some d
value_digit d h = go (ltb d 10) refl
  where
    go : (t : Bool) → ltb d 10 ≡ t → value_of (cond t (48 + d) (55 + d)) ≡ some d
    go true e =
        let k = ltb-true d 10 e in
        rw (le-leb 48 (48 + d) (omega arith), le-leb (48 + d) 57 (omega arith)) (ap some (omega arith))
    go false e =
        let k = ltb-false d 10 e in
        rw (
          le-leb 48 (55 + d) (omega arith),
          lt-leb (55 + d) 57 (omega arith),
          le-leb 65 (55 + d) (omega arith),
          le-leb (55 + d) 70 (omega arith),
        )
        (ap some (omega arith))

-- one byte is recovered from what it is sent as
recover_sent : (rule : Escapes) (b : ℕ) (l : List ℕ) → Sent b l → (q : List ℕ)
    → unstuff rule false (l ++ q) ≡ also b (unstuff rule false q)
unfolding unstuff
recover_sent Strict b l start_escaped q = refl
recover_sent Lenient b l start_escaped q = refl
recover_sent Strict b l escape_escaped q = refl
recover_sent Lenient b l escape_escaped q = refl
recover_sent rule b l (as_it_is b' e k) q = rw k

recover_one : (rule : Escapes) (f : Framing) (b : ℕ) (q : List ℕ) → b < 256
    → recovered rule f (coded f b ++ q) ≡ also b (recovered rule f q)
unfolding digits_of pairs
recover_one rule Binary b q h = recover_sent rule b (stuffed b) (sent b) q
recover_one rule Ascii b q h =
    let high = value_digit (b / 16) (omega arith) in
    rw (high, value_digit (b % 16) (omega arith), leb-suc-suc, leb-suc-suc, div-add-mod' b 16)

-- some bytes before what is recovered
abbrev pub also_all : List ℕ → Recovered → Recovered
also_all bs r = record { bytes = bs ++ r.bytes; fault = r.fault }

-- WHAT WAS CODED IS RECOVERED, whatever follows it
pub recovers : (rule : Escapes) (f : Framing) (bs q : List ℕ) → Bytes bs
    → recovered rule f (coding f bs ++ q) ≡ also_all bs (recovered rule f q)
unfolding coding flat_map
recovers rule f [] q h = refl
recovers rule f (b ∷ bs) q h =
    ap (recovered rule f) (append_assoc (coded f b) (coding f bs) q)
    ∙ recover_one rule f b (coding f bs ++ q) (h zero)
    ∙ ap (also b) (recovers rule f bs q (λ i. h (suc i)))

-- the body of a message: a length of at most 255, and sums of at most 254
pub body_bytes : (m : List ℕ) → length_ok (length m) ≡ true → Bytes m → Bytes (body_of m)
body_bytes m h b =
    let few = (length_ok_lem (length m) h).few in
    let sums = sums_small (length m ∷ m) in
    let one = (sums_of (length m ∷ m)).one in
    let two = (sums_of (length m ∷ m)).two in
    bytes_cons (length m) (m ++ (one ∷ two ∷ [])) (omega arith)
    (bytes_append m (one ∷ two ∷ []) b
    (bytes_cons one (two ∷ []) (omega arith) (bytes_cons two [] (omega arith) bytes_none)))

-- bytes are coded as bytes
two_bytes : (x y : ℕ) → x < 256 → y < 256 → Bytes (x ∷ y ∷ [])
two_bytes x y h k = bytes_cons x (y ∷ []) h (bytes_cons y [] k bytes_none)

sent_bytes : (b : ℕ) (l : List ℕ) → Sent b l → b < 256 → Bytes l
sent_bytes b l start_escaped h = two_bytes 0x7D 0x5E (lit≤ tt) (lit≤ tt)
sent_bytes b l escape_escaped h = two_bytes 0x7D 0x5D (lit≤ tt) (lit≤ tt)
sent_bytes b l (as_it_is b' e k) h = bytes_cons b' [] h bytes_none

coded_bytes : (f : Framing) (b : ℕ) → b < 256 → Bytes (coded f b)
coded_bytes Binary b h = sent_bytes b (stuffed b) (sent b) h
coded_bytes Ascii b h =
    let high = digit_between (b / 16) in
    let low = digit_between (b % 16) in
    two_bytes (digit (b / 16)) (digit (b % 16)) (omega arith) (omega arith)

pub coding_bytes : (f : Framing) (bs : List ℕ) → Bytes bs → Bytes (coding f bs)
unfolding coding flat_map
coding_bytes f [] h = bytes_none
coding_bytes f (b ∷ bs) h =
    bytes_append (coded f b) (coding f bs) (coded_bytes f b (h zero)) (coding_bytes f bs (λ i. h (suc i)))

-- ---- neither start nor stop in what is coded

or_with : (t a b c : Bool) → a ≡ (b || c) → (t || a) ≡ (t || b || c)
or_with true a b c e = refl
or_with false a b c e = e

pub among_append : (x : ℕ) (a b : List ℕ) → among x (a ++ b) ≡ (among x a || among x b)
among_append x [] b = refl
among_append x (y ∷ a) b = or_with (eqb x y) (among x (a ++ b)) (among x a) (among x b) (among_append x a b)

among_neither : (x y : ℕ) (l : List ℕ) → (x ≡ y → ⊥) → among x l ≡ false → among x (y ∷ l) ≡ false
among_neither x y l h k = rw (ne_eqb x y h) k

-- a start or stop byte
pub data Mark : Framing → ℕ → Type 0 where
  start : (f : Framing) → Mark f (start_of f)
  stop : Mark Ascii 0x0D

low_no_digit : (x b : ℕ) → x < 48 → among x (two_digits b) ≡ false
low_no_digit x b h =
    let high = digit_between (b / 16) in
    let low = digit_between (b % 16) in
    among_neither x (digit (b / 16)) (digit (b % 16) ∷ []) (λ e. omega arith)
    (among_neither x (digit (b % 16)) [] (λ e. omega arith) refl)

start_not_sent : (b : ℕ) (l : List ℕ) → Sent b l → among 0x7E l ≡ false
start_not_sent b l start_escaped = refl
start_not_sent b l escape_escaped = refl
start_not_sent b l (as_it_is b' e k) = among_neither 0x7E b' [] (λ q. eqb-false b' 0x7E e (sym q)) refl

no_mark_one : (f : Framing) (b x : ℕ) → Mark f x → among x (coded f b) ≡ false
no_mark_one Binary b x (start f) = start_not_sent b (stuffed b) (sent b)
no_mark_one Ascii b x (start f) = low_no_digit 0x0A b (omega arith)
no_mark_one Ascii b x stop = low_no_digit 0x0D b (omega arith)

-- WHAT IS CODED HOLDS NO START AND NO STOP
pub no_mark : (f : Framing) (bs : List ℕ) (x : ℕ) → Mark f x → among x (coding f bs) ≡ false
unfolding coding flat_map
no_mark f [] x h = refl
no_mark f (b ∷ bs) x h = among_append x (coded f b) (coding f bs) ∙ ap₂ ◌||◌ (no_mark_one f b x h) (no_mark f bs x h)

-- ---- coding again what was recovered

-- bytes that are coded again as the characters they came from, but for those left over
pub record Again (f : Framing) (bs cs : List ℕ) : Type 0 where
  pub bytes : Bytes bs
  pub left : List ℕ
  pub chars : coding f bs ++ left ≡ cs

-- nothing recovered: all is left over
pub again_none : (f : Framing) (cs : List ℕ) → Again f [] cs
unfolding coding flat_map
again_none f cs = record { bytes = bytes_none; left = cs; chars = refl }

-- one byte more, before others
pub again_one : (f : Framing) (b : ℕ) (bs cs : List ℕ) → b < 256 → Again f bs cs → Again f (b ∷ bs) (coded f b ++ cs)
unfolding coding flat_map
again_one f b bs cs h a = record {
  bytes = bytes_cons b bs h a.bytes;
  left = a.left;
  chars = append_assoc (coded f b) (coding f bs) a.left ∙ ap (λ (l : List ℕ). coded f b ++ l) a.chars;
}

-- a character that is a digit's, and its value
pub record Digit (c d : ℕ) : Type 0 where
  pub small : d < 16
  pub again : digit d ≡ c

-- a digit is written as it was read
pub digit_value : (c d : ℕ) → value_of c ≡ some d → Digit c d
digit_value c d = go (leb 48 c && leb c 57) refl (leb 65 c && leb c 70) refl
  where
    go : (s : Bool) → (leb 48 c && leb c 57) ≡ s → (t : Bool) → (leb 65 c && leb c 70) ≡ t
        → cond s (some (c - 48)) (cond t (some (c - 55)) none) ≡ some d → Digit c d
    go true e t k h =
        let low = leb-true 48 c (both_true (leb 48 c) (leb c 57) e).0 in
        let high = leb-true c 57 (both_true (leb 48 c) (leb c 57) e).1 in
        let is : c - 48 ≡ d = cc in
        record { small = omega arith; again = rw (lt-ltb d 10 (omega arith)) (omega arith) }
    go false e true k h =
        let low = leb-true 65 c (both_true (leb 65 c) (leb c 70) k).0 in
        let high = leb-true c 70 (both_true (leb 65 c) (leb c 70) k).1 in
        let is : c - 55 ≡ d = cc in
        record { small = omega arith; again = rw (le-ltb d 10 (omega arith)) (omega arith) }
    go false e false k h = absurd (let z : ◌≡◌ {A = ℕ} 0 1 = cc in omega arith)

two_again : (c c' d d' : ℕ) (cs : List ℕ) → Digit c d → Digit c' d' → two_digits (d * 16 + d') ++ cs ≡ c ∷ c' ∷ cs
two_again c c' d d' cs p q =
    let h : d' < 16 = q.small in
    rw (digits_div d h, digits_mod d h, p.again, q.again)

-- ASCII needs no condition: each digit has one character
pub pairs_again : (cs : List ℕ) → Again Ascii (pairs (digits_of cs)) cs
unfolding digits_of pairs
pairs_again [] = again_none Ascii []
pairs_again (c ∷ []) = go (value_of c)
  where
    go : (x : Option ℕ) → Again Ascii (pairs (and_digit x [])) (c ∷ [])
    go none = again_none Ascii (c ∷ [])
    go (some d) = again_none Ascii (c ∷ [])
pairs_again (c ∷ c' ∷ cs) = go (value_of c) refl (value_of c') refl (pairs_again cs)
  where
    go : (x : Option ℕ) → value_of c ≡ x → (y : Option ℕ) → value_of c' ≡ y → Again Ascii (pairs (digits_of cs)) cs
        → Again Ascii (pairs (and_digit x (and_digit y (digits_of cs)))) (c ∷ c' ∷ cs)
    go none e y k a = again_none Ascii (c ∷ c' ∷ cs)
    go (some d) e none k a = again_none Ascii (c ∷ c' ∷ cs)
    go (some d) e (some d') k a =
        let p = digit_value c d e in
        let q = digit_value c' d' k in
        rw (← two_again c c' d d' cs p q) (again_one Ascii (d * 16 + d') (pairs (digits_of cs)) cs (omega arith) a)
