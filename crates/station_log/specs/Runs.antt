-- Logs that calls of `keep` and `make_room` made, and what a log tells a table. Assumes nothing.
use Rattle.std.specs.Prelude.{ℕ, ◌+◌, ◌-◌, Bool, false, cond, ◌||◌, List, [], ◌∷◌, ◌++◌, eqb, take}
use Rattle.std.proofs.Math.Option.{get_or}
use Rattle.standard.specs.Words.{byte}
use Rattle.standard.specs.Messages.{number_of}
use Rattle.standard.specs.Judge.{Handed, handing}
use Rattle.station_log.specs.Log.{records_of, about, keep_refusal, added_of, after_keep}
use Rattle.station_log.specs.Room.{needless, won_of, after_room}

-- whether one of some messages is about a zone
unfoldable pub any_about : ℕ → List (List ℕ) → Bool
any_about zone [] = false
any_about zone (m ∷ ms) = about zone m || any_about zone ms

-- a unit's buffer, and how many bytes of it are used
pub record Station : Type 0 where
  pub buffer : List ℕ
  pub used : ℕ

abbrev pub log_in : Station → List ℕ
log_in s = take s.used s.buffer

-- a log that begins empty
abbrev pub empty : List ℕ → Station
empty buffer = record { buffer = buffer; used = 0 }

-- a call of `keep`: the length that it says is added to the used one, refused or not
unfoldable pub keeping : Station → List ℕ → Station
keeping s m = record {
  buffer = after_keep s.buffer s.used m;
  used = s.used + (added_of s.buffer s.used m).length;
}

-- calls with some messages, one after another, and the numbers that they answer
unfoldable pub keeping_all : Station → List (List ℕ) → Station
keeping_all s [] = s
keeping_all s (m ∷ ms) = keeping_all (keeping s m) ms

unfoldable pub numbers : Station → List (List ℕ) → List ℕ
numbers s [] = []
numbers s (m ∷ ms) = keep_refusal s.buffer s.used m ∷ numbers (keeping s m) ms

-- a call of `make_room`: the length that it says is taken from the used one, refused or not
unfoldable pub making : Station → Station
making s = record {
  buffer = after_room s.buffer s.used;
  used = s.used - (won_of s.buffer s.used).length;
}

-- calls of either, in whatever order
pub data Call : Type 0 where
  keeps : List ℕ → Call
  makes : Call

unfoldable pub calling : Station → Call → Station
calling s (keeps m) = keeping s m
calling s makes = making s

unfoldable pub calling_all : Station → List Call → Station
calling_all s [] = s
calling_all s (c ∷ cs) = calling_all (calling s c) cs

-- a unit that makes room where `keep` says 9, and then keeps
unfoldable pub keeping_on : Station → List ℕ → Station
keeping_on s m = cond (eqb (keep_refusal s.buffer s.used m) 9) (keeping (making s) m) (keeping s m)

unfoldable pub keeping_on_all : Station → List (List ℕ) → Station
keeping_on_all s [] = s
keeping_on_all s (m ∷ ms) = keeping_on_all (keeping_on s m) ms

-- the messages that stay, as `kept_of` has them, where only the kept ones among the later are counted
unfoldable pub kept_alone : List (List ℕ) → List (List ℕ) → List (List ℕ)
kept_alone later [] = []
kept_alone later (m ∷ older) = cond (needless later m) (kept_alone later older) (m ∷ kept_alone (m ∷ later) older)

-- how many of some messages have a number
unfoldable pub count_of : ℕ → List (List ℕ) → ℕ
count_of n [] = 0
count_of n (m ∷ ms) = cond (eqb (number_of (byte 1 m)) n) 1 0 + count_of n ms

-- the good messages among what a stream handed out, in their order
unfoldable pub good_in : List Handed → List (List ℕ)
good_in [] = []
good_in (h ∷ hs) = cond (eqb h.verdict 0) (h.message ∷ []) [] ++ good_in hs

-- the messages of a log in the order in which they were kept, as a stream would hand them out
unfoldable pub oldest_first : List (List ℕ) → List Handed
oldest_first [] = []
oldest_first (m ∷ older) = oldest_first older ++ (handing 0 m ∷ [])

abbrev pub told_by : List ℕ → List Handed
told_by log = oldest_first (get_or (records_of log) [])
