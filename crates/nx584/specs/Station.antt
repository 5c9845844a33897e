-- What C gets of the station log: include/nx584.h. Refusals and bytes are those of document 02, No. 6 and
-- No. 7. Assumes nothing.
use Rattle.std.specs.Prelude.{ℕ, ◌≡◌, List}
use Rattle.station_log.specs.Log.{Place, added_of, after_keep}
use Rattle.station_log.specs.Room.{won_of, after_room}
use Rattle.nx584.specs.declared.CWritten.{CWritten}
use Rattle.nx584.specs.declared.CFound.{CFound}
use Rattle.nx584.specs.Boundary.{c_written}

-- where a record stands, and its length
abbrev pub c_found : Place → CFound
c_found place = record { number = place.number; at = place.at; length = place.length }

-- what `nx584_keep` promises: its number and the bytes that were added, and every byte of the buffer
pub record CKeeps (log : List ℕ) (used : ℕ) (m : List ℕ) (answer : CWritten) (after : List ℕ) : Type 0 where
  pub says : answer ≡ c_written (added_of log used m)
  pub leaves : after ≡ after_keep log used m

-- what `nx584_make_room` promises: its number and the bytes that were won, and every byte of the buffer
pub record CMakesRoom (log : List ℕ) (used : ℕ) (answer : CWritten) (after : List ℕ) : Type 0 where
  pub says : answer ≡ c_written (won_of log used)
  pub leaves : after ≡ after_room log used
