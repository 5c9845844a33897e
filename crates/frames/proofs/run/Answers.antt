-- Answers for `frames::run`. Assumes nothing.
use Rattle.std.proofs.Common.{length, inl, arith}
use Rattle.frames.proofs.Plainly.{laid_first, laid_one, laid_taken, taken_laid, went_all}
use Rattle.frames.proofs.run.Goals.{in-Binary, in-Ascii}
use Rattle.frames.proofs.run.Goals as goal

pub loop-i-init : goal.loop-i-init
loop-i-init c =
    elim c.match-framing.branch [
      | in-Binary w ↦ rw (w.first-is, w.room-is) (laid_first c.args.framing c.args.bytes.now c.args.room.now)
      | in-Ascii w ↦ rw (w.in-Ascii.is, w.first-is, w.room-is) (taken_laid w.fours-first.ensures.lays)
    ]

pub loop-i-preserved : goal.loop-i-preserved
loop-i-preserved c =
    laid_one c.loop-i.invariant c.in-Some.b c.in-Some.ensures (omega (arith, c.loop-i-test.true))

pub returns-in_default : goal.returns-in_default
returns-in_default c =
    laid_taken c.loop-i.invariant (length c.args.room.now) (omega (arith, c.loop-i-test.true))
    (inl (went_all c.loop-i.invariant c.in_default.ensures))
