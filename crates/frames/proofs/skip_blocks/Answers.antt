-- Answers for `frames::skip_blocks`. Assumes nothing.
use Rattle.std.proofs.Common.{sym, ◌∙◌, arith}
use Rattle.frames.proofs.Skips.{pass_part}
use Rattle.frames.proofs.skip_blocks.Goals as goal

pub loop-block-preserved : goal.loop-block-preserved
loop-block-preserved c =
    let i = c.loop-block.invariant in
    let step = c.in-Some.ensures.steps in
    let p = pass_part i.passed c.in-Some.block.now c.next.new.self.rest.now 16 (sym i.rest ∙ step.1.0) (step.1.1 ∙ i.size)
    (sym c.has_start.ensures ∙ c.if-has_start.false) in
    record { can = omega arith; ends = tt; size = step.0 ∙ i.size; rest = p.1; passed = p.0 }
