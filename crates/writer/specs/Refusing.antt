-- What the writer's private parts answer. Assumes nothing.
use Rattle.std.specs.Prelude.{ℕ, [], ◌∷◌}
use Rattle.standard.specs.Refusals.{Written}
use Rattle.standard.specs.Words.{first_of}
use Rattle.standard.specs.Writer.{no_room}

-- "A refusal says length 0"
abbrev pub refusing : ℕ → Written
refusing number = record { number = number; length = 0 }

-- the last of the refusals, from the frame's length
abbrev pub room_refusal : ℕ → ℕ → ℕ → ℕ
room_refusal frame place size = first_of ((no_room frame place size, 9) ∷ [])
