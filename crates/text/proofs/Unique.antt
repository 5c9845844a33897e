-- Two answers that meet the contract of `report` are equal, and leave the buffer alike. Assumes nothing.
use mathlib.Core.Path.{◌≡◌, sym, ◌∙◌}
use borrow.Fn.Kinds.{Dens, ended_of, res_t}
use contract.Lifetimes.{Lfts}
use denote.Triple.Clauses.{AtExit}
use Rattle.standard.proofs.Sheet.{written_same}
use Rattle.text.proofs.report.Kinds.{ps, r}
use Rattle.text.proofs.report.Reads.{Post}

pub report_unique : (κs : Lfts 2) (a : Dens κs ps) (e e' : AtExit (ended_of 2 ps r) κs) (x y : (res_t r κs).Denot)
    → Post κs a x e → Post κs a y e' → (x ≡ y) × (e.1.0.now ≡ e'.1.0.now)
report_unique κs a e e' x y p q = (written_same x y (p.says ∙ sym q.says), p.leaves ∙ sym q.leaves)
