-- Document 01, "Length", "Type byte" and "The 41 messages". Assumes nothing.
use Rattle.std.specs.Prelude.{ℕ, ◌%◌, Option, Some, None, Bool, true, false, cond, not, ◌&&◌, ◌||◌, List, [], ◌∷◌, eqb, leb, length}
use Rattle.standard.specs.Words.{byte, bit, first_of}

-- document 02, No. 2: "Lengths 1 to 255 are now read"
abbrev pub longest : ℕ
longest = 255

abbrev pub length_ok : ℕ → Bool
length_ok n = leb 1 n && leb n longest

-- "The table of 64 message lengths, hexadecimal number and decimal length"
abbrev pub known : List (ℕ × ℕ)
known =
    (0x01, 11)
    ∷ (0x03, 18)
    ∷ (0x04, 8)
    ∷ (0x05, 10)
    ∷ (0x06, 9)
    ∷ (0x07, 9)
    ∷ (0x08, 12)
    ∷ (0x09, 4)
    ∷ (0x0A, 10)
    ∷ (0x0B, 3)
    ∷ (0x10, 13)
    ∷ (0x12, 7)
    ∷ (0x1C, 1)
    ∷ (0x1D, 1)
    ∷ (0x1E, 1)
    ∷ (0x1F, 1)
    ∷ (0x21, 1)
    ∷ (0x23, 2)
    ∷ (0x24, 2)
    ∷ (0x25, 2)
    ∷ (0x26, 2)
    ∷ (0x27, 1)
    ∷ (0x28, 1)
    ∷ (0x29, 4)
    ∷ (0x2A, 2)
    ∷ (0x2B, 12)
    ∷ (0x2C, 3)
    ∷ (0x30, 4)
    ∷ (0x31, 13)
    ∷ (0x32, 5)
    ∷ (0x33, 2)
    ∷ (0x34, 8)
    ∷ (0x35, 5)
    ∷ (0x36, 7)
    ∷ (0x37, 4)
    ∷ (0x3A, 6)
    ∷ (0x3B, 7)
    ∷ (0x3C, 6)
    ∷ (0x3D, 4)
    ∷ (0x3E, 3)
    ∷ (0x3F, 2)
    ∷ []

abbrev pub length_in : List (ℕ × ℕ) → ℕ → ℕ
length_in [] n = 0
length_in (row ∷ rows) n = cond (eqb n row.0) row.1 (length_in rows n)

-- the longest of the 41 messages
abbrev pub longest_known : ℕ
longest_known = 18

-- "Bits 0-5 number, bit 6 reserved, bit 7 acknowledge wanted"
abbrev pub number_of : ℕ → ℕ
number_of t = t % 64

abbrev pub flag_of : ℕ → Bool
flag_of t = eqb (bit 7 t) 1

-- the length that a type byte asks; 0: "a number not here is unrecognised", and "bit 6 set makes the number
-- unrecognised"
unfoldable pub length_for : ℕ → ℕ
length_for t = cond (eqb (bit 6 t) 0) (length_in known (number_of t)) 0

abbrev pub recognised : ℕ → Bool
recognised t = not (eqb (length_for t) 0)

-- the same as code says it: none where the number is unrecognised
abbrev pub length_asked : ℕ → Option ℕ
length_asked t = cond (recognised t) (Some (length_for t)) None

abbrev pub among : ℕ → List ℕ → Bool
among n [] = false
among n (k ∷ ks) = eqb n k || among n ks

abbrev pub within : ℕ → ℕ → ℕ → Bool
within low n high = leb low n && leb n high

abbrev pub clear : ℕ → ℕ → Bool
clear k x = eqb (bit k x) 0

-- a rule for messages of some numbers: it holds of every other message
abbrev pub for : List ℕ → ℕ → Bool → Bool
for numbers n rule = cond (among n numbers) rule true

-- "house at most 15; function 08, 18, 28, 38, 48, 58 or 68h; unit at most 15 for 28, 38, 48 and 58h, any for the rest"
abbrev pub x10_ok : List ℕ → Bool
x10_ok m =
    leb (byte 2 m) 15
    && among (byte 4 m) (0x08 ∷ 0x18 ∷ 0x28 ∷ 0x38 ∷ 0x48 ∷ 0x58 ∷ 0x68 ∷ [])
    && for (0x28 ∷ 0x38 ∷ 0x48 ∷ 0x58 ∷ []) (byte 4 m) (leb (byte 3 m) 15)

-- "year to 99, month 1-12, day 1-31 in every month, hour to 23, minute to 59, weekday 1-7"
abbrev pub clock_ok : List ℕ → Bool
clock_ok m =
    leb (byte 2 m) 99
    && within 1 (byte 3 m) 12
    && within 1 (byte 4 m) 31
    && leb (byte 5 m) 23
    && leb (byte 6 m) 59
    && within 1 (byte 7 m) 7

-- "Only these values are checked", for the message of number n
unfoldable pub values_ok : ℕ → List ℕ → Bool
values_ok n m =
    for (0x05 ∷ 0x25 ∷ []) n (leb (byte 2 m) 240)
    && for (0x06 ∷ 0x26 ∷ []) n (leb (byte 2 m) 7)
    && for (0x09 ∷ 0x29 ∷ []) n (x10_ok m)
    && for (0x0B ∷ []) n (leb (byte 3 m) 0x15)
    && for (0x2B ∷ []) n (eqb (byte 3 m) 0)
    && for (0x10 ∷ []) n (clear 5 (byte 3 m) && clear 7 (byte 3 m))
    && for (0x30 ∷ []) n (clear 4 (byte 3 m) && clear 5 (byte 3 m) && clear 7 (byte 3 m))
    && for (0x31 ∷ []) n (not (clear 5 (byte 3 m)) && clear 7 (byte 3 m))
    && for (0x3B ∷ []) n (clock_ok m)
    && for (0x3C ∷ []) n (leb (byte 5 m) 7)
    && for (0x3D ∷ []) n (leb (byte 2 m) 7)
    && for (0x3E ∷ []) n (leb (byte 2 m) 0x0F)

-- what is wrong with a message, in the order 4, 6, 7, 8
abbrev pub message_tests : List ℕ → List (Bool × ℕ)
message_tests m =
    (not (length_ok (length m)), 4)
    ∷ (not (recognised (byte 1 m)), 6)
    ∷ (not (eqb (length m) (length_for (byte 1 m))), 7)
    ∷ (not (values_ok (number_of (byte 1 m)) m), 8)
    ∷ []

-- the verdict of some bytes as a message: 0, 4, 6, 7 or 8
unfoldable pub check_of : List ℕ → ℕ
check_of m = first_of (message_tests m)

-- one of the numbers 04 to 08: the table stores their messages, and (document 02, No. 6) the log keeps them
abbrev pub status_number : ℕ → Bool
status_number n = within 0x04 n 0x08

-- a good message of one of them
unfoldable pub is_status : List ℕ → Bool
is_status m = eqb (check_of m) 0 && status_number (number_of (byte 1 m))
