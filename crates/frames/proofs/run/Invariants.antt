-- The loop of `frames::run`: so many plain bytes are laid in the room. Assumes nothing.
use Rattle.frames.proofs.Plainly.{Laid}
use Rattle.frames.proofs.run.Given as goal

abbrev pub invariant-loop-i : goal.invariant-loop-i
invariant-loop-i l = Laid l.framing l.bytes l.fn.room l.i l.room
