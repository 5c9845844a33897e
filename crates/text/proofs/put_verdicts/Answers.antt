-- What each call adds is a `Turn`. Assumes nothing.
use native.Mathlib.Omega.{arith}
use mathlib.Core.List.{flat_map}
use Rattle.puts.proofs.Puts.{puts_none, puts_then}
use Rattle.text.proofs.Turns.{heard_none, turn}
use Rattle.text.proofs.put_verdicts.Goals as goal

pub loop-used-init : goal.loop-used-init
unfolding flat_map
loop-used-init c = (heard_none _ _, puts_none _)

pub overflow_add-used : goal.overflow_add-used
overflow_add-used c =
    let t = turn c.loop-used.invariant.0 c.requires c.loop-used-test.true c.listen-answer.ensures in
    omega (arith, t.on.within)

pub loop-used-smaller : goal.loop-used-smaller
loop-used-smaller c =
    let t = turn c.loop-used.invariant.0 c.requires c.loop-used-test.true c.listen-answer.ensures in
    omega (arith, t.on.within, t.moves)

pub loop-used-preserved : goal.loop-used-preserved
loop-used-preserved c =
    let t = turn c.loop-used.invariant.0 c.requires c.loop-used-test.true c.listen-answer.ensures in
    (t.on, rw t.lines (puts_then c.loop-used.invariant.1 c.put_said.ensures))
