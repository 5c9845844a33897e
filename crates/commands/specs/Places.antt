-- What the private functions of this crate say of one slot and the one beside it. Assumes nothing.
use Rattle.std.specs.Prelude.{Bool, cond, ◌&&◌, List, zip, drop, slice_index_or}
use Rattle.std.specs.List.{list_all}
use Rattle.commands.specs.declared.Slot.{Slot}
use Rattle.commands.specs.Commands.{used, unused, idle, outstanding, holds_one, blank}

-- the first slot is sound; a slot is sound behind another
unfoldable pub front_ok : Slot → Bool
front_ok s = cond (unused s) (idle s) (outstanding s && holds_one s)

unfoldable pub behind_ok : Slot → Slot → Bool
behind_ok before s = cond (unused s) (idle s) (idle s && used before && holds_one s)

-- the first of some slots
abbrev pub front : List Slot → Slot
front xs = slice_index_or xs 0 blank

-- each slot is sound behind the one before it
abbrev pub each_behind : List Slot → Bool
each_behind xs = list_all (λ p. behind_ok p.0 p.1) (zip xs (drop 1 xs))
