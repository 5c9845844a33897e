-- Cards for document 02, No. 6 and No. 7: logs, and what each call says and leaves, typed from its sentences. Assumes
-- nothing.
use Rattle.std.specs.Prelude.{ℕ, length, drop, replicate}
use mathlib.Core.List.{List, [], ◌∷◌, ◌++◌, flat_map}
use Rattle.standard.specs.Refusals.{Written}
use Rattle.standard.specs.Words.{up_to}
use Rattle.station_log.specs.Log.{Place, found_of, added_of}
use Rattle.station_log.specs.Room.{won_of, after_room}

-- a question about a zone, or a message to keep, and what is said
pub record Asked : Type 0 where
  pub log : List ℕ
  pub used : ℕ
  pub zone : ℕ
  pub said : ℕ × ℕ × ℕ

pub record Told : Type 0 where
  pub log : List ℕ
  pub used : ℕ
  pub message : List ℕ
  pub said : ℕ × ℕ

-- a log to make room in, what is said, and the records that stay
pub record Roomed : Type 0 where
  pub log : List ℕ
  pub used : ℕ
  pub said : ℕ × ℕ
  pub left : List ℕ

abbrev roomed : List ℕ → ℕ → ℕ × ℕ → List ℕ → Roomed
roomed log used said left = record { log = log; used = used; said = said; left = left }

abbrev asked : List ℕ → ℕ → ℕ → ℕ × ℕ × ℕ → Asked
asked log used zone said = record { log = log; used = used; zone = zone; said = said }

abbrev told : List ℕ → ℕ → List ℕ → ℕ × ℕ → Told
told log used message said = record { log = log; used = used; message = message; said = said }

abbrev found : Place → ℕ × ℕ × ℕ
found f = (f.number, f.at, f.length)

abbrev added : Written → ℕ × ℕ
added w = (w.number, w.length)

abbrev pub asked_of : Asked → ℕ × ℕ × ℕ
asked_of c = found (found_of c.log c.used c.zone)

abbrev pub told_of : Told → ℕ × ℕ
told_of c = added (added_of c.log c.used c.message)

abbrev pub roomed_of : Roomed → (ℕ × ℕ) × List ℕ
roomed_of c = (added (won_of c.log c.used), after_room c.log c.used)

-- "bytes beyond the new used length stay"
abbrev pub roomed_as : Roomed → (ℕ × ℕ) × List ℕ
roomed_as c = (c.said, c.left ++ drop (length c.left) c.log)

-- ---- messages: cards 4 and 5 of document 01, a partition's status with its flag set, and four that are not kept

abbrev zone_ten : List ℕ
zone_ten = 0x84 ∷ 0x09 ∷ 0x7E ∷ 0x10 ∷ 0x58 ∷ 0x00 ∷ 0x01 ∷ 0x00 ∷ []

abbrev zones_one_to16 : List ℕ
zones_one_to16 = 0x05 ∷ 0x00 ∷ 0x01 ∷ 0x00 ∷ 0x00 ∷ 0x00 ∷ 0x00 ∷ 0x00 ∷ 0x00 ∷ 0x00 ∷ []

abbrev partition_one : List ℕ
partition_one = 0x86 ∷ 0x00 ∷ 0x01 ∷ 0x00 ∷ 0x00 ∷ 0x00 ∷ 0x00 ∷ 0x00 ∷ 0x00 ∷ []

abbrev last_zones : List ℕ
last_zones = 0x05 ∷ 0xF0 ∷ 0x00 ∷ 0x00 ∷ 0x00 ∷ 0x00 ∷ 0x00 ∷ 0x00 ∷ 0x00 ∷ 0x00 ∷ []

abbrev beyond_zones : List ℕ
beyond_zones = 0x05 ∷ 0xF1 ∷ 0x00 ∷ 0x00 ∷ 0x00 ∷ 0x00 ∷ 0x00 ∷ 0x00 ∷ 0x00 ∷ 0x00 ∷ []

abbrev x10 : List ℕ
x10 = 0x09 ∷ 0x00 ∷ 0x00 ∷ 0x28 ∷ []

-- ---- logs: "the message and then a trailer byte that holds its length"

abbrev one : List ℕ
one = zone_ten ++ (0x08 ∷ [])

abbrev three : List ℕ
three = one ++ zones_one_to16 ++ (0x0A ∷ []) ++ partition_one ++ (0x09 ∷ [])

-- of zone 10 again behind them, and one byte that is not used
abbrev four : List ℕ
four = three ++ one ++ (0xFF ∷ [])

abbrev pub asking : List Asked
asking =
    -- the newest of three records about zone 10; with the last one not used it is the 05h, and then the first
    asked four 39 9 (0, 30, 9)
    ∷ asked four 30 9 (0, 9, 11)
    ∷ asked four 9 9 (0, 0, 9)
    -- "05h covering it", 16 zones from its offset on
    ∷ asked four 39 0 (0, 9, 11)
    ∷ asked four 39 15 (0, 9, 11)
    ∷ asked four 39 16 (0, 0, 0)
    ∷ asked (last_zones ++ (0x0A ∷ [])) 11 255 (0, 0, 11)
    ∷ asked (last_zones ++ (0x0A ∷ [])) 11 239 (0, 0, 0)
    -- "none": nothing is used, and no record is about the zone
    ∷ asked four 0 9 (0, 0, 0)
    ∷ asked (partition_one ++ (0x09 ∷ [])) 10 0 (0, 0, 0)
    -- "16 used length beyond the buffer"
    ∷ asked four 41 9 (16, 0, 0)
    -- "17 log unsound": the walk misses the beginning, a record is no message of 04h to 08h, a checked value is wrong
    ∷ asked four 38 9 (17, 0, 0)
    ∷ asked four 40 9 (17, 0, 0)
    ∷ asked (0x00 ∷ one) 10 9 (17, 0, 0)
    ∷ asked ((x10 ++ (0x04 ∷ [])) ++ one) 14 9 (17, 0, 0)
    ∷ asked ((beyond_zones ++ (0x0A ∷ [])) ++ one) 20 9 (17, 0, 0)
    ∷ []

-- a buffer of zeros
abbrev room : ℕ → List ℕ
room n = replicate n 0

abbrev pub telling : List Told
telling =
    -- 0 and what is added: the message and its trailer
    told (room 9) 0 zone_ten (0, 9)
    ∷ told four 39 zones_one_to16 (9, 0)
    ∷ told (four ++ room 10) 39 zones_one_to16 (0, 11)
    ∷ told (four ++ room 9) 39 zones_one_to16 (9, 0)
    ∷ told (room 10) 0 partition_one (0, 10)
    ∷ told (room 11) 0 last_zones (0, 11)
    -- "16 ..; 17 ..; then the message's own; 18 number not kept; 9 no room"
    ∷ told (room 8) 9 [] (16, 0)
    ∷ told (room 8) 1 [] (17, 0)
    ∷ told (room 8) 0 [] (4, 0)
    ∷ told (room 8) 0 (0x02 ∷ []) (6, 0)
    ∷ told (room 8) 0 (0x44 ∷ 0x09 ∷ 0x7E ∷ 0x10 ∷ 0x58 ∷ 0x00 ∷ 0x01 ∷ 0x00 ∷ []) (6, 0)
    ∷ told (room 8) 0 (0x04 ∷ []) (7, 0)
    ∷ told (room 8) 0 beyond_zones (8, 0)
    ∷ told (room 8) 0 (0x09 ∷ 0x10 ∷ 0x00 ∷ 0x28 ∷ []) (8, 0)
    ∷ told (room 0) 0 x10 (18, 0)
    ∷ told (room 8) 0 (0x1D ∷ []) (18, 0)
    ∷ told (room 8) 0 zone_ten (9, 0)
    ∷ []

-- ---- No. 7: records to make room among

-- 04h of a zone, 05h from a zone on, 06h of a partition, 07h and 08h, each with a byte by which to know it again
abbrev zone : ℕ → ℕ → List ℕ
zone z b = 0x04 ∷ z ∷ b ∷ 0 ∷ 0 ∷ 0 ∷ 0 ∷ 0 ∷ 8 ∷ []

abbrev sixteen : ℕ → ℕ → List ℕ
sixteen z b = 0x85 ∷ z ∷ b ∷ 0 ∷ 0 ∷ 0 ∷ 0 ∷ 0 ∷ 0 ∷ 0 ∷ 10 ∷ []

abbrev partition : ℕ → ℕ → List ℕ
partition p b = 0x06 ∷ p ∷ b ∷ 0 ∷ 0 ∷ 0 ∷ 0 ∷ 0 ∷ 0 ∷ 9 ∷ []

abbrev partitions : ℕ → List ℕ
partitions b = 0x07 ∷ b ∷ 0 ∷ 0 ∷ 0 ∷ 0 ∷ 0 ∷ 0 ∷ 0 ∷ 9 ∷ []

abbrev system : ℕ → List ℕ
system b = 0x08 ∷ b ∷ 0 ∷ 0 ∷ 0 ∷ 0 ∷ 0 ∷ 0 ∷ 0 ∷ 0 ∷ 0 ∷ 0 ∷ 12 ∷ []

-- 04h of the first n zones, and 06h of all eight partitions
abbrev zones : ℕ → List ℕ
zones n = flat_map (λ z. zone z 7) (up_to n)

abbrev all_partitions : List ℕ
all_partitions = flat_map (λ p. partition p 7) (up_to 8)

abbrev pub rooms : List Roomed
rooms =
    -- an empty log
    roomed (room 3) 0 (0, 0) []
    -- of two records of one zone the earlier goes, of two zones none; one byte of the buffer is not used
    ∷ roomed (zone 9 1 ++ zone 9 2 ++ (0xFF ∷ [])) 18 (0, 9) (zone 9 2)
    ∷ roomed (zone 9 1 ++ zone 8 2) 18 (0, 0) (zone 9 1 ++ zone 8 2)
    ∷ roomed (zone 9 1 ++ zone 9 1) 18 (0, 9) (zone 9 1)
    -- 05h does not write all that 04h does; 04h does, of one zone
    ∷ roomed (zone 9 1 ++ sixteen 0 2) 20 (0, 0) (zone 9 1 ++ sixteen 0 2)
    ∷ roomed (sixteen 0 1 ++ zones 16) 155 (0, 11) (zones 16)
    ∷ roomed (sixteen 0 1 ++ zones 15) 146 (0, 0) (sixteen 0 1 ++ zones 15)
    ∷ roomed (sixteen 1 1 ++ zones 16) 155 (0, 0) (sixteen 1 1 ++ zones 16)
    -- "by later ones together": by 04h of eight zones and 05h of the others; of the first of three by both
    ∷ roomed (sixteen 0 1 ++ zones 8 ++ sixteen 8 2) 94 (0, 11) (zones 8 ++ sixteen 8 2)
    ∷ roomed (sixteen 0 1 ++ sixteen 0 2 ++ sixteen 0 3) 33 (0, 22) (sixteen 0 3)
    ∷ roomed (sixteen 240 1 ++ sixteen 239 2 ++ sixteen 240 3) 33 (0, 11) (sixteen 239 2 ++ sixteen 240 3)
    -- "every mark bit": 06h and 07h do not stand for each other
    ∷ roomed (partition 3 1 ++ partitions 2) 20 (0, 0) (partition 3 1 ++ partitions 2)
    ∷ roomed (partitions 1 ++ all_partitions) 90 (0, 0) (partitions 1 ++ all_partitions)
    ∷ roomed (partition 3 1 ++ partition 4 2 ++ partition 3 3) 30 (0, 10) (partition 4 2 ++ partition 3 3)
    ∷ roomed (partitions 1 ++ partition 3 2 ++ partitions 3) 30 (0, 10) (partition 3 2 ++ partitions 3)
    ∷ roomed (system 1 ++ zone 9 2 ++ system 3) 35 (0, 13) (zone 9 2 ++ system 3)
    -- "Refusals: 16 and 17, as in No. 6"
    ∷ roomed (zone 9 1 ++ zone 9 2) 19 (16, 0) []
    ∷ roomed (zone 9 1 ++ zone 9 2) 17 (17, 0) []
    ∷ roomed (0x00 ∷ zone 9 2) 10 (17, 0) []
    ∷ []
