-- Which numbers `write` answers. Assumes nothing.
use mathlib.Core.Path.{◌≡◌, ap, ◌∙◌}
use mathlib.Core.Bool.{true}
use borrow.Fn.Kinds.{Dens, ended_of, res_t}
use contract.Lifetimes.{Lfts}
use denote.Triple.Clauses.{AtExit}
use Rattle.standard.specs.Refusals.{number_in}
use Rattle.standard.specs.Writer.{written_of}
use Rattle.standard.proofs.Refusals.{of_the_writer, refusal_numbers}
use Rattle.writer.proofs.write.Kinds.{ps, r}
use Rattle.writer.proofs.write.Reads.{Post}

-- EVERY ANSWER THAT MEETS THE CONTRACT has one of the numbers 0, 4, 6, 7, 8 and 9
pub write_numbers : (κs : Lfts 2) (a : Dens κs ps) (e : AtExit (ended_of 2 ps r) κs) (x : (res_t r κs).Denot)
    → Post κs a x e → of_the_writer (number_in x) ≡ true
unfolding written_of
write_numbers κs a e x p = ap (λ w. of_the_writer w.number) p.says ∙ refusal_numbers _ _ _ _
