-- Document 02, No. 6: the station log. A log is the used bytes of a lent buffer; its messages stand in lists newest
-- first. Zones are counted from 0, as on the line, so zone 1 is 0. Assumes nothing.
use Rattle.std.specs.Prelude.{ℕ, zero, suc, ◌+◌, ◌-◌, ◌≡◌, Bool, true, false, cond, not, ◌&&◌, ◌||◌, List, [], ◌∷◌, ◌++◌, eqb, ltb, length, get_or, take, drop}
use Rattle.std.proofs.Math.Option
use Rattle.std.proofs.Math.Option.{Option, none, some, map}
use Rattle.standard.specs.Refusals.{Written}
use Rattle.standard.specs.Words.{byte, first_of, laid}
use Rattle.standard.specs.Messages.{number_of, within, message_tests, status_number, is_status}

-- "a lent buffer of at most 64 KiB"
abbrev pub log_most : ℕ
log_most = 65536

-- "Each record is the message and then a trailer byte that holds its length"
abbrev pub record_of : List ℕ → List ℕ
record_of m = m ++ (length m ∷ [])

-- "one after another": the log that some messages make
unfoldable pub joined : List (List ℕ) → List ℕ
joined [] = []
joined (m ∷ older) = joined older ++ record_of m

-- ---- "so the log is read from its end backwards"

-- the last byte is the trailer of the last record
abbrev pub trailer : List ℕ → ℕ
trailer log = get_or log (length log - 1) 0

-- where that record begins, and its message
abbrev pub last_start : List ℕ → ℕ
last_start log = length log - 1 - trailer log

abbrev pub last_message : List ℕ → List ℕ
last_message log = take (trailer log) (drop (last_start log) log)

-- "walking back by its trailers lands on its beginning": the messages met; none where a trailer reaches beyond the
-- beginning. steps: so many records at most
unfoldable pub walked_back : ℕ → List ℕ → Option (List (List ℕ))
walked_back zero log = cond (eqb (length log) 0) (some []) none
walked_back (suc steps) log =
    cond (eqb (length log) 0) (some [])
    (cond (ltb (trailer log) (length log))
    (map (λ ms. last_message log ∷ ms) (walked_back steps (take (last_start log) log))) none)

-- "every record has a kept number and passes 4, 6, 7 and 8"
unfoldable pub all_kept : List (List ℕ) → Bool
all_kept [] = true
all_kept (m ∷ ms) = is_status m && all_kept ms

abbrev pub if_kept : Option (List (List ℕ)) → Option (List (List ℕ))
if_kept none = none
if_kept (some ms) = cond (all_kept ms) (some ms) none

-- the messages of a log, newest first, if it is one; each has a trailer at least, so that there are no more than bytes
unfoldable pub records_of : List ℕ → Option (List (List ℕ))
records_of log = if_kept (walked_back (length log) log)

-- "A log is sound if" there is such a list
abbrev pub is_list : Option (List (List ℕ)) → Bool
is_list none = false
is_list (some ms) = true

unfoldable pub sound : List ℕ → Bool
sound log = is_list (records_of log)

-- ---- "The newest record about a given zone"

-- "04h of that zone, or 05h covering it": its offset at most the zone, the zone at most its offset and 15
unfoldable pub about : ℕ → List ℕ → Bool
about zone m =
    (eqb (number_of (byte 1 m)) 0x04 && eqb (byte 2 m) zone)
    || (eqb (number_of (byte 1 m)) 0x05 && within (byte 2 m) zone (byte 2 m + 15))

-- the newest message about a zone and those older than it; [] where there is none
unfoldable pub from_newest : ℕ → List (List ℕ) → List (List ℕ)
from_newest zone [] = []
from_newest zone (m ∷ older) = cond (about zone m) (m ∷ older) (from_newest zone older)

-- the first of some messages as a record, and where it stands in their log: behind the older ones
unfoldable pub first_record : List (List ℕ) → List ℕ
first_record [] = []
first_record (m ∷ older) = record_of m

unfoldable pub first_place : List (List ℕ) → ℕ
first_place [] = 0
first_place (m ∷ older) = length (joined older)

-- "the newest record about a given zone", its trailer with it; [] is "none"
abbrev pub newest_from : List ℕ → ℕ → List (List ℕ)
newest_from log zone = from_newest zone (Option.get_or (records_of log) [])

abbrev pub newest_of : List ℕ → ℕ → List ℕ
newest_of log zone = first_record (newest_from log zone)

abbrev pub newest_place : List ℕ → ℕ → ℕ
newest_place log zone = first_place (newest_from log zone)

-- ---- refusals, and what the calls answer

-- "beyond the buffer or above 65,536"
abbrev pub beyond : List ℕ → ℕ → Bool
beyond log end = ltb (length log) end || ltb log_most end

-- "16 used length beyond the buffer or above 65,536; 17 log unsound"
abbrev pub log_tests : List ℕ → ℕ → List (Bool × ℕ)
log_tests log used = (beyond log used, 16) ∷ (not (sound (take used log)), 17) ∷ []

unfoldable pub log_refusal : List ℕ → ℕ → ℕ
log_refusal log used = first_of (log_tests log used)

-- what a question about a zone says: a number, and a record's place and length
pub record Place : Type 0 where
  pub number : ℕ
  pub at : ℕ
  pub length : ℕ

-- where the newest record about a zone stands, and its length; "a refused call's counts and lengths are 0"
unfoldable pub found_of : List ℕ → ℕ → ℕ → Place
found_of log used zone = record {
  number = log_refusal log used;
  at = cond (eqb (log_refusal log used) 0) (newest_place (take used log) zone) 0;
  length = cond (eqb (log_refusal log used) 0) (length (newest_of (take used log) zone)) 0;
}

-- "then the message's own; 18 number not kept; 9 no room in the buffer or within 65,536"
abbrev pub keep_tests : List ℕ → ℕ → List ℕ → List (Bool × ℕ)
keep_tests log used m =
    log_tests log used ++ message_tests m
    ++ ((not (status_number (number_of (byte 1 m))), 18) ∷ (beyond log (used + length (record_of m)), 9) ∷ [])

unfoldable pub keep_refusal : List ℕ → ℕ → List ℕ → ℕ
keep_refusal log used m = first_of (keep_tests log used m)

-- 0 and the bytes that were added
unfoldable pub added_of : List ℕ → ℕ → List ℕ → Written
added_of log used m = record {
  number = keep_refusal log used m;
  length = cond (eqb (keep_refusal log used m) 0) (length (record_of m)) 0;
}

-- the record stands where the used bytes ended, and every other byte stays
unfoldable pub after_keep : List ℕ → ℕ → List ℕ → List ℕ
after_keep log used m = cond (eqb (keep_refusal log used m) 0) (laid log used (record_of m)) log

-- what `keep` promises: its answer, and every byte of the buffer
pub record Keeps (log : List ℕ) (used : ℕ) (m : List ℕ) (answer : Written) (after : List ℕ) : Type 0 where
  pub says : answer ≡ added_of log used m
  pub leaves : after ≡ after_keep log used m
