-- The 14 numbers, one by one and in ranges: "29, 2B, 2C, 31, 34 to 37, 3A, 3B and 3C to 3F". Assumes nothing.
use Prim.Native.Nat.{ℕ, ◌<◌}
use mathlib.Core.Path.{◌≡◌, refl}
use mathlib.Core.Bool.{Bool, ◌||◌}
use lib.Dec.{eqb}
use lib.ListN.{length}
use Rattle.standard.specs.Messages.{known, length_in, within}
use Rattle.standard.proofs.Tables.{alike}
use Rattle.commands.specs.Commands.{fourteen, one_of_them, longest_command}

pub fourteen_14 : length fourteen ≡ 14
fourteen_14 = refl

-- 31h is the longest of them
pub longest_command_lem : length_in known 0x31 ≡ longest_command
longest_command_lem = refl

abbrev pub in_ranges : ℕ → Bool
in_ranges n = eqb n 0x29 || eqb n 0x2B || eqb n 0x2C || eqb n 0x31 || within 0x34 n 0x37 || within 0x3A n 0x3F

-- the two say the same of every byte, by one computed test
pub in_ranges_lem : (n : ℕ) → n < 256 → in_ranges n ≡ one_of_them n
unfolding one_of_them
in_ranges_lem n h = alike in_ranges one_of_them 256 tt n h
