-- f32 holds counts of zones exactly, and the division of two such numbers is their fraction rounded once. Assumes
-- nothing.
use native.Mathlib.Omega.{arith}
use lib.Ieee.{binary32}
use Rattle.standard.proofs.Shares.{divided}
use Rattle.grid.proofs.share_of.Goals as goal

pub returns : goal.returns
returns c = divided binary32 _ _ (omega arith) (omega arith) (omega arith)
