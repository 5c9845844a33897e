-- The fields of the line, one after another. Assumes nothing.
use Rattle.puts.proofs.Puts.{puts_part, puts_then}
use Rattle.text.proofs.put_group.Goals as goal

pub returns : goal.returns
returns c =
    let heard = puts_then (puts_part c.part.ensures) (puts_part c.decimal-2.ensures) in
    puts_then (puts_then (puts_then (puts_part c.decimal.ensures) heard) c.put_faulted.ensures)
    (puts_part c.part-2.ensures)
