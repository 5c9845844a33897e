-- Two answers and two buffers that both meet the contract of `write` are equal. Assumes nothing.
use mathlib.Core.Path.{◌≡◌, sym, ◌∙◌}
use borrow.Fn.Kinds.{Dens, ended_of, res_t}
use contract.Lifetimes.{Lfts}
use denote.Triple.Clauses.{AtExit}
use Rattle.standard.proofs.Sheet.{written_same}
use Rattle.writer.proofs.write.Kinds.{ps, r}
use Rattle.writer.proofs.write.Reads.{Post}

-- at exit `out` is the third of the parameters
pub write_unique : (κs : Lfts 2) (a : Dens κs ps) (e e' : AtExit (ended_of 2 ps r) κs) (x y : (res_t r κs).Denot)
    → Post κs a x e → Post κs a y e' → (x ≡ y) × (e.1.1.0.now ≡ e'.1.1.0.now)
write_unique κs a e e' x y p q = (written_same x y (p.says ∙ sym q.says), p.leaves ∙ sym q.leaves)
