-- What the private functions of this crate say between them. Assumes nothing.
use Rattle.std.specs.Prelude.{ℕ, ◌≡◌, true, cond, List, ◌++◌, length}
use Rattle.standard.specs.Messages.{is_status}
use Rattle.station_log.specs.Log.{record_of, sound, newest_of, newest_place, Place}

-- a record stands at the end of a log: the bytes before it, and its message
pub record Ends (log older m : List ℕ) : Type 0 where
  pub bytes : log ≡ older ++ record_of m
  pub kept : is_status m ≡ true

-- none stands there
abbrev pub EndsWithNone : List ℕ → Type 0
EndsWithNone log = (older m : List ℕ) → Ends log older m → ⊥

-- the newest record about a zone in bytes that are all used
unfoldable pub found_in : List ℕ → ℕ → Place
found_in log zone = record {
  number = cond (sound log) 0 17;
  at = newest_place log zone;
  length = length (newest_of log zone);
}
