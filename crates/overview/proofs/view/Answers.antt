-- A table that is not refused is whole, so that each group is seen. Assumes nothing.
use Rattle.std.proofs.Common.{◌≡◌, refl, sym, ap, ap₂, ◌∙◌, arith, suc, ◌+◌, List, [], ◌∷◌, ◌++◌, ℕ, ◌<◌, map, take, length}
use Rattle.std.proofs.lemmas.Result.{err_from_is_err_and}
use native.Mathlib.Numerals.{add-one}
use lib.ListN.{set, length-set}
use lib.Seq.{take-suc-set, take_all}
use Rattle.standard.specs.declared.Group.{Group}
use Rattle.standard.specs.Words.{up_to, total}
use Rattle.standard.specs.Overview.{Counted, counted, heard_of, faulted_of, group_values}
use Rattle.standard.proofs.Words.{map_append, map_map, map_more, total_more}
use Rattle.standard.proofs.Sheet.{number_not_0}
use Rattle.standard.proofs.Questions.{asked_whole}
use Rattle.standard.proofs.Seen.{seen_whole, seen_refused}
use Rattle.overview.proofs.Groups.{group_seen, told_few}
use Rattle.overview.proofs.view.Goals as goal

abbrev counted_at : List ℕ → ℕ → Counted
counted_at t i = counted (heard_of t (suc i)) (faulted_of t (suc i))

pub loop-index-init : goal.loop-index-init
unfolding up_to total
loop-index-init c = record { groups = refl; heard = refl; faulted = refl; few_heard = omega arith; few_faulted = omega arith; sixteen = refl }

pub overflow_add-counts : goal.overflow_add-counts
overflow_add-counts c =
    let b = told_few c.args.table.now c.loop-index.index c.group-group.result _ c.group-group.ensures in
    record { fits = omega arith }

pub overflow_add-counts-in-loop-index : goal.overflow_add-counts-in-loop-index
overflow_add-counts-in-loop-index c =
    let b = told_few c.args.table.now c.loop-index.index c.group-group.result _ c.group-group.ensures in
    record { fits = omega arith }

-- one group more stands in its place
stored : (l : List Group) (i : ℕ) (g : Group) → i < length l
    → map group_values (take (i + 1) (set l i g)) ≡ map group_values (take i l) ++ (group_values g ∷ [])
stored l i g h = rw (add-one, take-suc-set) (map_append group_values (take i l) (g ∷ []))

pub loop-index-preserved : goal.loop-index-preserved
loop-index-preserved c =
    let t = c.args.table.now in
    let i = c.loop-index.index in
    let whole = sym c.in_ok-check.ensures in
    let g = group_seen t i c.group-group.result whole (omega arith) c.group-group.ensures in
    let b = told_few t i c.group-group.result _ c.group-group.ensures in
    record {
      groups = stored c.loop-index.place-items i c.group-group.result (omega arith)
          ∙ ap₂ (λ l x. l ++ (x ∷ [])) c.loop-index.invariant.groups g
          ∙ sym (map_more (counted_at t) i);
      heard = rw total_more (ap₂ ◌+◌ c.loop-index.invariant.heard (ap (λ (x : Counted). x.heard) g));
      faulted = rw total_more (ap₂ ◌+◌ c.loop-index.invariant.faulted (ap (λ (x : Counted). x.faulted) g));
      few_heard = omega arith;
      few_faulted = omega arith;
      sixteen = simp length-set c.loop-index.invariant.sixteen;
    }

pub returns-in_err-check : goal.returns-in_err-check
returns-in_err-check c =
    let p = err_from_is_err_and c.from_residual.result c.from_residual.ensures.1 in
    let says = c.in_err-check.ensures in
    rw (p.1, p.2, says)
    (sym (seen_refused c.args.table.now (λ e. number_not_0 c.in_err-check.field-0.0 (says ∙ e))))

pub returns : goal.returns
returns c =
    let t = c.args.table.now in
    let e : c.loop-index.index ≡ 16 = omega arith in
    let inv = rw e at c.loop-index.invariant in
    let groups = rw (take_all 16 c.loop-index.place-items (omega (arith, inv.sixteen))) at inv.groups in
    simp (seen_whole t (asked_whole t (sym c.in_ok-check.ensures)), map_map)
    (λ i. record {
      number = 0;
      groups = groups i;
      site = (c.shared.ensures ∙ ap₂ counted inv.heard inv.faulted) i;
    })
