-- The loop of `frames::skip_blocks`: no start is among the bytes that were passed, and the others are still to come.
-- Assumes nothing.
use Rattle.std.proofs.Common.{◌≡◌, drop}
use Rattle.frames.specs.Parts.{Passed}
use Rattle.frames.proofs.skip_blocks.Given as goal

abbrev pub invariant-loop-block : goal.invariant-loop-block
invariant-loop-block l = record {
  can : (goal.iterator-loop-block).can_next l.block-iterator;
  ends : (goal.iterator-loop-block).is_finite l.block-iterator;
  size : l.block-iterator.size ≡ 16;
  rest : l.block-iterator.rest.now ≡ drop l.passed l.bytes;
  passed : Passed l.start l.passed l.bytes;
}
