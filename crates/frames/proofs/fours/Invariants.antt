-- The loop of `frames::fours`: so many plain bytes are laid in the room. Assumes nothing.
use Rattle.std.proofs.Common.{◌-◌, ◌≤◌, length}
use Rattle.standard.specs.declared.Framing.TheVariants.{Ascii}
use Rattle.frames.proofs.Plainly.{Laid}
use Rattle.frames.proofs.fours.Given as goal

abbrev pub invariant-loop-i : goal.invariant-loop-i
invariant-loop-i l = record { fits : l.i ≤ length l.fn.room; laid : Laid Ascii l.bytes l.fn.room l.i l.room }

abbrev pub decreases-loop-i : goal.decreases-loop-i
decreases-loop-i l = length l.initial.room - l.i
