-- Document 01, "The table": what a message writes, and the table afterwards. Zones and partitions are counted from 0
-- here, as on the line, so zone 1 is 0. Assumes nothing.
use Rattle.std.specs.Prelude.{ℕ, suc, ◌+◌, ◌*◌, ◌/◌, ◌%◌, max, ◌≡◌, Bool, cond, not, eqb, length, get_or, take, drop, set, replicate}
use mathlib.Core.List.{List, [], ◌∷◌, flat_map}
use Rattle.std.specs.Int.Bits.{bit_or}
use Rattle.standard.specs.Words.{byte, bit, up_to, first_of}
use Rattle.standard.specs.Messages.{number_of, message_tests}
use Rattle.standard.specs.Judge.{Handed}

-- ---- "256 zone records of 8, then 8 partition records of 9, then the system record of 12"

abbrev pub table_bytes : ℕ
table_bytes = 2132

abbrev pub zone_place : ℕ → ℕ
zone_place zone = 8 * zone

abbrev pub partition_place : ℕ → ℕ
partition_place partition = 2048 + 9 * partition

abbrev pub system_place : ℕ
system_place = 2120

-- the table's length, for 11: "table buffer is not 2,132 bytes"
abbrev pub is_table : List ℕ → Bool
is_table t = eqb (length t) table_bytes

abbrev pub table_test : List ℕ → Bool × ℕ
table_test t = (not (is_table t), 11)

-- "All zero is fresh"
unfoldable pub fresh : List ℕ
fresh = replicate table_bytes 0

-- "Zone: mark, partition mask, type flags 1-3, condition flags 1-2, short flags"
abbrev pub zone_mark : List ℕ → ℕ → ℕ
zone_mark t zone = get_or t (zone_place zone) 0

abbrev pub zone_short : List ℕ → ℕ → ℕ
zone_short t zone = get_or t (zone_place zone + 7) 0

-- "A zone is heard when mark bit 0 is set": 1, or 0
abbrev pub heard_zone : List ℕ → ℕ → ℕ
heard_zone t zone = bit 0 (zone_mark t zone)

-- short flags "bit 0 faulted"
abbrev pub short_faulted : List ℕ → ℕ → ℕ
short_faulted t zone = bit 0 (zone_short t zone)

-- ---- what a message writes

-- a byte stored at a place, or bits set in the mark at a place
pub data Write : Type 0 where
  stores : ℕ → ℕ → Write
  marks : ℕ → ℕ → Write

-- bytes stored one after another from a place on
unfoldable pub stores_from : ℕ → List ℕ → List Write
stores_from place [] = []
stores_from place (b ∷ bs) = stores place b ∷ stores_from (suc place) bs

-- "faulted from condition 1 bit 0; bypass from bit 3 or 4; trouble from bit 1, 2, 5 or 6; alarm memory from condition 2
-- bit 0; bits 4-7 clear"
abbrev pub short_from : ℕ → ℕ → ℕ
short_from c1 c2 =
    bit 0 c1
    + 2 * max (bit 3 c1) (bit 4 c1)
    + 4 * max (max (bit 1 c1) (bit 2 c1)) (max (bit 5 c1) (bit 6 c1))
    + 8 * bit 0 c2

-- "04h stores its bytes 3-8, sets mark bits 0 and 1, and sets the short flags"
abbrev pub zone_writes : List ℕ → List Write
zone_writes m =
    marks (zone_place (byte 2 m)) 3
    ∷ stores_from (zone_place (byte 2 m) + 1)
    (byte 3 m ∷ byte 4 m ∷ byte 5 m ∷ byte 6 m ∷ byte 7 m ∷ byte 8 m ∷ short_from (byte 7 m) (byte 8 m) ∷ [])

-- four bits of 05h: of its 16 zones, an even one has the low half of its byte
abbrev pub four_bits : ℕ → ℕ → ℕ
four_bits j b = cond (eqb (j % 2) 0) (b % 16) (b / 16)

-- "05h sets short flags (bits 4-7 clear) and mark bit 0 of its 16 zones, nothing else of them"
abbrev pub short_writes : List ℕ → ℕ → List Write
short_writes m j =
    marks (zone_place (byte 2 m + j)) 1 ∷ stores (zone_place (byte 2 m + j) + 7) (four_bits j (byte (3 + j / 2) m)) ∷ []

-- "06h stores and sets mark bit 1; the short byte stays": "the seven bytes of 06h from byte 3"
abbrev pub partition_writes : List ℕ → List Write
partition_writes m = marks (partition_place (byte 2 m)) 2 ∷ stores_from (partition_place (byte 2 m) + 1) (take 7 (drop 2 m))

-- "07h sets all eight short bytes and mark bit 0 of each"
abbrev pub partition_short : List ℕ → ℕ → List Write
partition_short m p = marks (partition_place p) 1 ∷ stores (partition_place p + 8) (byte (2 + p) m) ∷ []

-- "08h stores and sets its mark to 1": "System: mark, bytes 2-12 of 08h"
abbrev pub system_writes : List ℕ → List Write
system_writes m = stores_from system_place (1 ∷ take 11 (drop 1 m))

-- "all other messages leave the table's bytes alike"
unfoldable pub writes_of : ℕ → List ℕ → List Write
writes_of n m =
    cond (eqb n 0x04) (zone_writes m)
    (cond (eqb n 0x05) (flat_map (short_writes m) (up_to 16))
    (cond (eqb n 0x06) (partition_writes m)
    (cond (eqb n 0x07) (flat_map (partition_short m) (up_to 8))
    (cond (eqb n 0x08) (system_writes m) []))))

-- ---- the table afterwards

abbrev pub done : Write → List ℕ → List ℕ
done (stores place b) t = set t place b
done (marks place bits) t = set t place (bit_or (get_or t place 0) bits)

unfoldable pub done_all : List Write → List ℕ → List ℕ
done_all [] t = t
done_all (w ∷ ws) t = done_all ws (done w t)

-- "Order of refusal: 11, 4, 6, 7, 8"
unfoldable pub apply_refusal : List ℕ → List ℕ → ℕ
apply_refusal t m = first_of (table_test t ∷ message_tests m)

unfoldable pub applied_to : List ℕ → List ℕ → List ℕ
applied_to t m = cond (eqb (apply_refusal t m) 0) (done_all (writes_of (number_of (byte 1 m)) m) t) t

-- what `apply` promises: its number, and every byte of the table
pub record Applied (t m : List ℕ) (number : ℕ) (after : List ℕ) : Type 0 where
  pub says : number ≡ apply_refusal t m
  pub leaves : after ≡ applied_to t m

-- the table after what a stream handed out: the good messages, one after another
unfoldable pub table_after : List ℕ → List Handed → List ℕ
table_after t [] = t
table_after t (h ∷ hs) = table_after (cond (eqb h.verdict 0) (applied_to t h.message) t) hs
