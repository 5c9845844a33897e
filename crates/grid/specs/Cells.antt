-- Cells as private functions put them. Nobody needs to believe these words. Assumes nothing.
use Rattle.std.specs.Prelude.{Bool, true, not, Float}
use Rattle.std.proofs.Math.Option.{Option, none, some}
use Rattle.std.specs.Float.Ieee.{is_nan}

-- a cell that has a bit pattern
abbrev pub is_number : Option Float → Bool
is_number none = true
is_number (some x) = not (is_nan x)
