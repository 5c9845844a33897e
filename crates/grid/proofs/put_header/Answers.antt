-- Four texts with three numbers between them. Assumes nothing.
use Rattle.standard.specs.Text.{characters}
use Rattle.puts.proofs.Puts.{puts_part, puts_then}
use Rattle.grid.proofs.Headers.{header_put}
use Rattle.grid.proofs.put_header.Goals as goal

pub returns : goal.returns
unfolding characters
returns c =
    let columns = puts_then (puts_part c.part.ensures) (puts_part c.decimal.ensures) in
    let rows = puts_then (puts_then columns (puts_part c.part-2.ensures)) (puts_part c.decimal-2.ensures) in
    let corners = puts_then (puts_then rows (puts_part c.part-3.ensures)) (puts_part c.decimal-3.ensures) in
    header_put c.args.level _ _ c.wide-wide.ensures c.side-side.ensures (puts_then corners (puts_part c.part-4.ensures))
