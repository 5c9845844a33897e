-- Two answers that meet the contract of a public function are equal. Assumes nothing.
use Rattle.std.proofs.Common.{◌≡◌, sym, ◌∙◌}
use borrow.Fn.Kinds.{Dens, ended_of, res_t}
use contract.Lifetimes.{Lfts}
use denote.Triple.Clauses.{AtExit}
use Rattle.sums.proofs.add.Kinds as add-kinds
use Rattle.sums.proofs.add.Reads as add
use Rattle.sums.proofs.with.Kinds as with-kinds
use Rattle.sums.proofs.with.Reads as with
use Rattle.sums.proofs.sums_of.Kinds as sums-of-kinds
use Rattle.sums.proofs.sums_of.Reads as sums-of

pub add_unique : (κs : Lfts 0) (a : Dens κs add-kinds.ps) (e : AtExit (ended_of 0 add-kinds.ps add-kinds.r) κs)
    (x y : (res_t add-kinds.r κs).Denot) → add.Post κs a x e → add.Post κs a y e → x ≡ y
add_unique κs a e x y p q = p ∙ sym q

pub with_unique : (κs : Lfts 0) (a : Dens κs with-kinds.ps) (e : AtExit (ended_of 0 with-kinds.ps with-kinds.r) κs)
    (x y : (res_t with-kinds.r κs).Denot) → with.Post κs a x e → with.Post κs a y e → x ≡ y
with_unique κs a e x y p q = p ∙ sym q

pub sums_of_unique : (κs : Lfts 1) (a : Dens κs sums-of-kinds.ps)
    (e : AtExit (ended_of 1 sums-of-kinds.ps sums-of-kinds.r) κs) (x y : (res_t sums-of-kinds.r κs).Denot)
    → sums-of.Post κs a x e → sums-of.Post κs a y e → x ≡ y
sums_of_unique κs a e x y p q = p ∙ sym q
