-- After `index` turns the groups so far stand in their places and the counts are their sums, at most 16 a group.
-- Assumes nothing.
use Rattle.std.proofs.Common.{◌≡◌, ◌≤◌, ◌*◌, suc, map, take, length}
use Rattle.standard.specs.Words.{up_to, total}
use Rattle.standard.specs.Overview.{counted, heard_of, faulted_of, group_values}
use Rattle.overview.proofs.view.Given as goal

abbrev pub invariant-loop-index : goal.invariant-loop-index
invariant-loop-index l = record {
  groups : map group_values (take l.index l.place-items)
      ≡ map (λ i. counted (heard_of l.table (suc i)) (faulted_of l.table (suc i))) (up_to l.index);
  heard : l.counts.heard ≡ total (map (λ i. heard_of l.table (suc i)) (up_to l.index));
  faulted : l.counts.faulted ≡ total (map (λ i. faulted_of l.table (suc i)) (up_to l.index));
  few_heard : l.counts.heard ≤ 16 * l.index;
  few_faulted : l.counts.faulted ≤ 16 * l.index;
  sixteen : length l.place-items ≡ 16;
}
