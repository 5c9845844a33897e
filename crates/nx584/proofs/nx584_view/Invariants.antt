-- After `index` turns the groups so far stand in their places, in C's numbers. Assumes nothing.
use Rattle.std.proofs.Common.{◌≡◌, map, take, length}
use Rattle.nx584.proofs.Views.{in_numbers}
use Rattle.nx584.proofs.nx584_view.Given as goal

abbrev pub invariant-loop-index : goal.invariant-loop-index
invariant-loop-index l = record {
  groups : take l.index l.place-items ≡ map in_numbers (take l.index l.seen.groups);
  sixteen : length l.place-items ≡ 16;
}
