-- 0 by 0 is the NaN. Assumes nothing.
use lib.Ieee.{div, of_bits}
use Rattle.nx584.proofs.share_number.Goals as goal

pub returns-in-NotHeard : goal.returns-in-NotHeard
unfolding div of_bits
returns-in-NotHeard c = rw c.in-NotHeard.is
