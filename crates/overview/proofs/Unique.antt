-- Each public function's promise settles its answer: two that meet the predicate that its contract generates are equal.
-- Assumes nothing.
use mathlib.Core.Path.{◌≡◌, sym, ◌∙◌}
use borrow.Fn.Kinds.{Dens, ended_of, res_t}
use contract.Lifetimes.{Lfts}
use denote.Triple.Clauses.{AtExit}
use Rattle.standard.proofs.Seen.{group_settled, overview_settled}
use Rattle.overview.proofs.group.Kinds as group-kinds
use Rattle.overview.proofs.group.Reads as group
use Rattle.overview.proofs.run.Kinds as run-kinds
use Rattle.overview.proofs.run.Reads as run
use Rattle.overview.proofs.view.Kinds as view-kinds
use Rattle.overview.proofs.view.Reads as view
use Rattle.overview.proofs.with_share.Kinds as with-share-kinds
use Rattle.overview.proofs.with_share.Reads as with-share

pub with_share_unique : (κs : Lfts 0) (a : Dens κs with-share-kinds.ps)
    (e : AtExit (ended_of 0 with-share-kinds.ps with-share-kinds.r) κs)
    (x y : (res_t with-share-kinds.r κs).Denot) → with-share.Post κs a x e → with-share.Post κs a y e → x ≡ y
with_share_unique κs a e x y p q = group_settled x y (p ∙ sym q)

pub run_unique : (κs : Lfts 1) (a : Dens κs run-kinds.ps) (e : AtExit (ended_of 1 run-kinds.ps run-kinds.r) κs)
    (x y : (res_t run-kinds.r κs).Denot) → run.Post κs a x e → run.Post κs a y e → x ≡ y
run_unique κs a e x y p q = p ∙ sym q

pub group_unique : (κs : Lfts 1) (a : Dens κs group-kinds.ps)
    (e : AtExit (ended_of 1 group-kinds.ps group-kinds.r) κs)
    (x y : (res_t group-kinds.r κs).Denot) → group.Post κs a x e → group.Post κs a y e → x ≡ y
group_unique κs a e x y p q = group_settled x y (p ∙ sym q)

pub view_unique : (κs : Lfts 1) (a : Dens κs view-kinds.ps)
    (e : AtExit (ended_of 1 view-kinds.ps view-kinds.r) κs)
    (x y : (res_t view-kinds.r κs).Denot) → view.Post κs a x e → view.Post κs a y e → x ≡ y
view_unique κs a e x y p q = overview_settled x y (p ∙ sym q)
