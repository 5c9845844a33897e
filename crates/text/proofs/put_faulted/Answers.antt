-- The definition's own test. Assumes nothing.
use Rattle.puts.proofs.Puts.{puts_part, puts_then}
use Rattle.text.proofs.Groups.{not_heard, heard_some}
use Rattle.text.proofs.put_faulted.Goals as goal

pub returns-then-heard-eq0 : goal.returns-then-heard-eq0
returns-then-heard-eq0 c =
    rw (not_heard c.args.heard c.args.faulted c.if-heard-eq0.true)
    (puts_then (puts_part c.part.ensures) (puts_part c.part-then-heard-eq0.ensures))

pub returns-else-heard-eq0 : goal.returns-else-heard-eq0
returns-else-heard-eq0 c =
    rw (heard_some c.args.heard c.args.faulted c.if-heard-eq0.false)
    (puts_then (puts_part c.part.ensures) (puts_part c.decimal.ensures))
