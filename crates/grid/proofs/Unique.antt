-- The promise of `grid` settles its answer and every byte of both buffers: two that meet the predicate that its
-- contract generates are equal. Assumes nothing.
use mathlib.Core.Path.{◌≡◌, sym, ap, ◌∙◌}
use Rattle.std.specs.Prelude.{Result, Ok, Err}
use borrow.Fn.Kinds.{Dens, ended_of, res_t}
use contract.Lifetimes.{Lfts}
use denote.Triple.Clauses.{AtExit}
use Rattle.standard.specs.declared.Refusal.{Refusal}
use Rattle.standard.proofs.Sheet.{number_same, number_not_0}
use Rattle.grid.specs.declared.Gridded.{Gridded}
use Rattle.grid.specs.Grid.{Filled, gridded_in}
use Rattle.grid.proofs.grid.Kinds as grid-kinds
use Rattle.grid.proofs.grid.Reads as grid

-- what is said of an answer tells it
answers_same : (x y : Result Gridded Refusal) → gridded_in x ≡ gridded_in y → x ≡ y
answers_same (Ok g) (Ok h) e = ap (λ (f : Filled). Ok (record { header = f.header; cells = f.cells })) e
answers_same (Ok g) (Err s) e = absurd (number_not_0 s (sym (ap (λ (f : Filled). f.number) e)))
answers_same (Err r) (Ok h) e = absurd (number_not_0 r (ap (λ (f : Filled). f.number) e))
answers_same (Err r) (Err s) e = ap Err (number_same r s (ap (λ (f : Filled). f.number) e))

-- the answer, the header's buffer and the cells', the last two of the parameters
pub grid_unique : (κs : Lfts 3) (a : Dens κs grid-kinds.ps) (e e' : AtExit (ended_of 3 grid-kinds.ps grid-kinds.r) κs)
    (x y : (res_t grid-kinds.r κs).Denot) → grid.Post κs a x e → grid.Post κs a y e'
    → (x ≡ y) × (e.1.1.0.now ≡ e'.1.1.0.now) × (e.1.1.1.0.now ≡ e'.1.1.1.0.now)
grid_unique κs a e e' x y p q =
    (answers_same x y (p.says ∙ sym q.says), p.heads ∙ sym q.heads, p.leaves ∙ sym q.leaves)
