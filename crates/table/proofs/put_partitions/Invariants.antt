use Rattle.std.proofs.Common.{◌≡◌}
use mathlib.Core.List.{flat_map}
use Rattle.standard.specs.Words.{up_to}
use Rattle.standard.specs.Table.{partition_short, done_all}
use Rattle.table.proofs.put_partitions.Given as goal

abbrev pub invariant-loop-p : goal.invariant-loop-p
invariant-loop-p l = l.table ≡ done_all (flat_map (partition_short l.message) (up_to l.p)) l.fn.table
