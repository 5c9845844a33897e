-- What the private functions promise. Assumes nothing.
use Rattle.std.specs.Prelude.{◌≡◌, ℕ, ◌+◌, ◌≤◌, true, false, List, ◌++◌, length, get_or, take, drop, slice_index}
use Rattle.standard.specs.Messages.{length_ok, among}

-- no start is among the first n bytes
pub record Passed (start n : ℕ) (bytes : List ℕ) : Type 0 where
  pub within : n ≤ length bytes
  pub no_start : among start (take n bytes) ≡ false

-- some bytes are laid at the beginning of a room, and counted
pub record Lays (room more : List ℕ) (r : ℕ) (after : List ℕ) : Type 0 where
  pub count : r ≡ length more
  pub lays : after ≡ more ++ drop (length more) room

-- a frame's bytes that can be judged: a length that is read, and as many bytes as it asks
pub record Complete (frame : List ℕ) : Type 0 where
  pub known : length_ok (slice_index frame 0) ≡ true
  pub all : get_or frame 0 0 + 3 ≤ length frame
