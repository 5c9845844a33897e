-- What is put at the place of an `Out`. Assumes nothing.
use Rattle.std.specs.Prelude.{ℕ, ◌+◌, ◌≤◌, ◌≡◌, List, length}
use Rattle.standard.specs.Words.{Put, PutIfFits}
use Rattle.puts.specs.declared.Out.{Out}

-- a part is put at the place of the buffer, and the place is after it; where it does not fit, nothing is done
pub record PutsIfFits (before : Out) (part : List ℕ) (after : Out) : Type 0 where
  pub same_reference : after.buffer.ghost_name ≡ before.buffer.ghost_name
  pub put : PutIfFits before.buffer.now before.place part after.buffer.now after.place

-- what is said of several parts that are put one after another: where all of them fit, all are put
pub record Puts (before : Out) (part : List ℕ) (after : Out) : Type 0 where
  pub same_reference : after.buffer.ghost_name ≡ before.buffer.ghost_name
  pub put : before.place + length part ≤ length before.buffer.now
      → Put before.buffer.now before.place part after.buffer.now after.place
