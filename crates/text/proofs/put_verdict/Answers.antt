-- The fields of the line, one after another. Assumes nothing.
use Rattle.puts.proofs.Puts.{puts_part, puts_then}
use Rattle.text.proofs.put_verdict.Goals as goal

pub returns : goal.returns
returns c =
    let fields = puts_then (puts_then (puts_part c.decimal.ensures) c.put_type.ensures) c.put_reply.ensures in
    puts_then fields (puts_part c.part.ensures)
