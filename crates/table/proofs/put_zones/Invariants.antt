use Rattle.std.proofs.Common.{◌≡◌, ◌*◌}
use mathlib.Core.List.{flat_map}
use Rattle.standard.specs.Words.{up_to}
use Rattle.standard.specs.Table.{short_writes, done_all}
use Rattle.table.proofs.put_zones.Given as goal

abbrev pub invariant-loop-j : goal.invariant-loop-j
invariant-loop-j l = l.table ≡ done_all (flat_map (short_writes l.message) (up_to (2 * l.j))) l.fn.table
