-- The loop of `reader::go`: the reader so far is sound, and the whole read is what is left of it, with as many bytes used.
use Rattle.std.proofs.Common.{◌-◌, length}
use Rattle.reader.proofs.Functions.CodeLoop.{SoFar}
use Rattle.reader.proofs.go.Given as goal

abbrev pub invariant-loop-used : goal.invariant-loop-used
invariant-loop-used l =
    SoFar (record { mode = l.fn.mode; held = l.fn.held; bytes = l.fn.frame; escapes = l.escapes }) l.bytes l.used
    (record { mode = l.mode; held = l.held; bytes = l.frame; escapes = l.escapes })

abbrev pub decreases-loop-used : goal.decreases-loop-used
decreases-loop-used l = length l.bytes - l.used
