-- The definition's own test. Assumes nothing.
use mathlib.Core.Path.{sym, ◌∙◌}
use Rattle.puts.proofs.Puts.{puts_part}
use Rattle.text.proofs.put_type.Goals as goal

pub returns-else-carries_type : goal.returns-else-carries_type
returns-else-carries_type c = rw (sym c.carries_type.ensures ∙ c.if-carries_type.false) (puts_part c.part.ensures)
