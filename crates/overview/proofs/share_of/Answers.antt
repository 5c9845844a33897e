-- f64 holds counts below 65,536 exactly, and the division of two such numbers is their fraction rounded once.
-- Assumes nothing.
use Rattle.std.proofs.Common.{◌∙◌, arith}
use lib.Ieee.{binary64}
use Rattle.standard.proofs.Shares.{divided, share_64}
use Rattle.overview.proofs.share_of.Goals as goal

pub returns-else-counts-eq0 : goal.returns-else-counts-eq0
returns-else-counts-eq0 c = divided binary64 _ _ (omega arith) (omega arith) (omega arith) ∙ share_64 _ _
