-- A space, and the two digits. Assumes nothing.
use Rattle.puts.proofs.Puts.{puts_part, puts_then}
use Rattle.text.proofs.put_hex.Goals as goal

pub returns : goal.returns
returns c = rw (← c.two_digits.ensures) (puts_then (puts_part c.part.ensures) (puts_part c.part-2.ensures))
