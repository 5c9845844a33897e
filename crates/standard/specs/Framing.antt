-- Document 01, "The line and its two framings". Assumes nothing.
use Rattle.std.specs.Prelude.{ℕ, ◌+◌, ◌-◌, ◌*◌, ◌/◌, ◌%◌, Bool, true, false, cond, ◌&&◌, eqb, leb, ltb, length}
use Rattle.std.proofs.Math.Option.{Option, none, some}
use mathlib.Core.List.{List, [], ◌∷◌, ◌++◌, flat_map}
use Rattle.std.specs.Int.Bits.{bit_xor}
use Rattle.standard.specs.declared.Framing.{Framing}
use Rattle.standard.specs.declared.Framing.TheVariants.{Binary, Ascii}
use Rattle.standard.specs.declared.Escapes.{Escapes}
use Rattle.standard.specs.declared.Escapes.TheVariants.{Strict, Lenient}
use Rattle.standard.specs.Sums.{sums_of}
use Rattle.standard.specs.Messages.{longest_known, among}

-- "Start 7Eh", "Start 0Ah"
abbrev pub start_of : Framing → ℕ
start_of Binary = 0x7E
start_of Ascii = 0x0A

-- "No stop byte", "then stop 0Dh"
abbrev pub stop_of : Framing → List ℕ
stop_of Binary = []
stop_of Ascii = 0x0D ∷ []

-- ---- sending

-- "7Eh and 7Dh are sent as 7D 5E and 7D 5D"
abbrev pub stuffed : ℕ → List ℕ
stuffed b = cond (eqb b 0x7E) (0x7D ∷ 0x5E ∷ []) (cond (eqb b 0x7D) (0x7D ∷ 0x5D ∷ []) (b ∷ []))

-- a digit "from 0-9 and A-F"
abbrev pub digit : ℕ → ℕ
digit d = cond (ltb d 10) (48 + d) (55 + d)

-- "every byte as two characters, high digit first"
abbrev pub two_digits : ℕ → List ℕ
two_digits b = digit (b / 16) ∷ digit (b % 16) ∷ []

abbrev pub coded : Framing → ℕ → List ℕ
coded Binary b = stuffed b
coded Ascii b = two_digits b

unfoldable pub coding : Framing → List ℕ → List ℕ
coding f bs = flat_map (coded f) bs

-- "length byte, message (type byte first), two sum bytes"; the sums are "over the length byte and all message bytes"
abbrev pub body_of : List ℕ → List ℕ
body_of m = length m ∷ m ++ ((sums_of (length m ∷ m)).one ∷ (sums_of (length m ∷ m)).two ∷ [])

-- the frame of a message
unfoldable pub frame_of : Framing → List ℕ → List ℕ
frame_of f m = start_of f ∷ coding f (body_of m) ++ stop_of f

-- "A written binary frame has at most 41 bytes, an ASCII frame at most 44", from the longest of the 41 messages
abbrev pub most_of : Framing → ℕ
most_of Binary = 2 * longest_known + 5
most_of Ascii = 2 * longest_known + 8

-- ---- recovering

-- the bytes recovered from those after a start, and the verdict of the byte at which recovering stops, if one stops it
pub record Recovered : Type 0 where
  pub bytes : List ℕ
  pub fault : Option ℕ

abbrev pub also : ℕ → Recovered → Recovered
also b r = record { bytes = b ∷ r.bytes; fault = r.fault }

-- the bytes for which an escape is needed, "7Eh and 7Dh", as they come after it
abbrev pub needed : ℕ → Bool
needed b = among b (0x5E ∷ 0x5D ∷ [])

-- document 02, No. 5: by the strict rule no other byte may follow a 7Dh. (A 7Eh is in no part: it starts the next)
abbrev pub may_follow : Escapes → ℕ → Bool
may_follow Strict b = needed b
may_follow Lenient b = true

abbrev pub stopped : ℕ → Recovered
stopped verdict = record { bytes = []; fault = some verdict }

-- "a 7Dh is dropped and the next byte is XORed with 20h, whichever byte that is" (`true`: such a 7Dh came just before);
-- 15, "bad escape", at a byte that may not follow it
unfoldable pub unstuff : Escapes → Bool → List ℕ → Recovered
unstuff rule escape [] = record { bytes = []; fault = none }
unstuff rule true (b ∷ bs) = cond (may_follow rule b) (also (bit_xor b 0x20) (unstuff rule false bs)) (stopped 15)
unstuff rule false (b ∷ bs) = let rest = unstuff rule (eqb b 0x7D) bs in cond (eqb b 0x7D) rest (also b rest)

-- a digit's value, "from 0-9 and A-F", and none for any other byte
abbrev pub value_of : ℕ → Option ℕ
value_of c = cond (leb 48 c && leb c 57) (some (c - 48)) (cond (leb 65 c && leb c 70) (some (c - 55)) none)

abbrev pub and_digit : Option ℕ → List ℕ → List ℕ
and_digit none ds = []
and_digit (some d) ds = d ∷ ds

-- the digits' values up to the first byte that is none
unfoldable pub digits_of : List ℕ → List ℕ
digits_of [] = []
digits_of (c ∷ cs) = and_digit (value_of c) (digits_of cs)

-- two digits make a byte, "high digit first"
unfoldable pub pairs : List ℕ → List ℕ
pairs [] = []
pairs (h ∷ []) = []
pairs (h ∷ l ∷ ds) = (h * 16 + l) ∷ pairs ds

-- 2: "a byte that is neither a digit nor 0Ah where a digit is due"
abbrev pub no_digit : List ℕ → Option ℕ
no_digit cs = cond (ltb (length (digits_of cs)) (length cs)) (some 2) none

-- in ASCII the rule has no effect
abbrev pub recovered : Escapes → Framing → List ℕ → Recovered
recovered rule Binary after = unstuff rule false after
recovered rule Ascii after = record { bytes = pairs (digits_of after); fault = no_digit after }

-- ---- escapes that were needed

-- "its only escapes were those for 7Eh and 7Dh" (`true`: a 7Dh came just before)
unfoldable pub only_needed : Bool → List ℕ → Bool
only_needed escape [] = true
only_needed true (b ∷ bs) = needed b && only_needed false bs
only_needed false (b ∷ bs) = only_needed (eqb b 0x7D) bs

-- of the bytes after a start; ASCII has no escapes
abbrev pub escapes_needed : Framing → List ℕ → Bool
escapes_needed Binary after = only_needed false after
escapes_needed Ascii after = true
