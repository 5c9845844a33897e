-- Each public function's promise settles its answer: two that meet the predicate that its contract generates are equal.
-- Assumes nothing.
use mathlib.Core.Path.{◌≡◌, sym, ◌∙◌}
use borrow.Fn.Kinds.{Dens, ended_of, res_t}
use contract.Lifetimes.{Lfts}
use denote.Triple.Clauses.{AtExit}
use Rattle.standard.proofs.Sheet.{numbers_same}
use Rattle.messages.proofs.length_for.Kinds as length-for-kinds
use Rattle.messages.proofs.length_for.Reads as length-for
use Rattle.messages.proofs.check.Kinds as check-kinds
use Rattle.messages.proofs.check.Reads as check
use Rattle.messages.proofs.is_status.Kinds as is-status-kinds
use Rattle.messages.proofs.is_status.Reads as is-status

pub length_for_unique : (κs : Lfts 0) (a : Dens κs length-for-kinds.ps)
    (e : AtExit (ended_of 0 length-for-kinds.ps length-for-kinds.r) κs)
    (x y : (res_t length-for-kinds.r κs).Denot) → length-for.Post κs a x e → length-for.Post κs a y e → x ≡ y
length_for_unique κs a e x y p q = p ∙ sym q

pub check_unique : (κs : Lfts 1) (a : Dens κs check-kinds.ps)
    (e : AtExit (ended_of 1 check-kinds.ps check-kinds.r) κs)
    (x y : (res_t check-kinds.r κs).Denot) → check.Post κs a x e → check.Post κs a y e → x ≡ y
check_unique κs a e x y p q = numbers_same x y (p ∙ sym q)

pub is_status_unique : (κs : Lfts 1) (a : Dens κs is-status-kinds.ps)
    (e : AtExit (ended_of 1 is-status-kinds.ps is-status-kinds.r) κs)
    (x y : (res_t is-status-kinds.r κs).Denot) → is-status.Post κs a x e → is-status.Post κs a y e → x ≡ y
is_status_unique κs a e x y p q = p ∙ sym q
