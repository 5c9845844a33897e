-- The overview's groups and site in C's numbers. Assumes nothing.
use Rattle.std.proofs.Common.{◌≡◌, sym, ap, ◌∙◌, arith, map, length}
use lib.ListN.{length-set}
use lib.Seq.{take_all}
use Rattle.standard.specs.Overview.{group_values}
use Rattle.standard.proofs.Words.{map_map}
use Rattle.nx584.specs.Boundary.{c_group, c_overview}
use Rattle.nx584.proofs.Views.{in_numbers, one_more}
use Rattle.nx584.proofs.nx584_view.Goals as goal

pub loop-index-preserved : goal.loop-index-preserved
loop-index-preserved c =
    let i = c.loop-index.index in
    let inv = c.loop-index.invariant in
    let seen = c.in-Ok.seen in
    let sixteen : length seen.groups ≡ 16 = omega arith in
    record {
      groups =
          one_more seen.groups c.loop-index.place-items i c.from.result _ (omega (arith, inv.sixteen)) (omega (arith, sixteen))
          c.from.ensures inv.groups;
      sixteen = simp length-set inv.sixteen;
    }

pub returns-after-loop-index : goal.returns-after-loop-index
returns-after-loop-index c =
    let seen = c.in-Ok.seen in
    let sixteen : length seen.groups ≡ 16 = omega arith in
    let e : c.loop-index.index ≡ 16 = omega arith in
    let inv = rw e at c.loop-index.invariant in
    let groups = sym (take_all 16 c.loop-index.place-items (omega (arith, inv.sixteen)))
    ∙ inv.groups
    ∙ ap (map in_numbers) (take_all 16 seen.groups (omega (arith, sixteen)))
    ∙ sym (map_map group_values c_group seen.groups) in
    (λ i. record { number = 0; groups = groups i; site = c.from-site.ensures i })
    ∙ ap c_overview c.in-Ok.ensures
