-- The sums are those of the bytes passed.
use Rattle.std.proofs.Common.{◌≡◌, take}
use Rattle.standard.specs.Sums.{sums_of}
use Rattle.sums.proofs.sums_of.Given as goal

abbrev pub invariant-loop-b : goal.invariant-loop-b
invariant-loop-b l = l.sums ≡ sums_of (take l.b-index l.bytes)
