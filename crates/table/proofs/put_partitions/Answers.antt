-- `table::put_partitions` meets its contract: a turn does the writes of one partition more. Assumes nothing.
use Rattle.std.proofs.Common.{ℕ, ◌+◌, ◌<◌, length-take, arith, refl}
use mathlib.Core.List.{flat_map}
use Rattle.standard.specs.Words.{byte, up_to}
use Rattle.standard.specs.Table.{partition_place, done_all}
use Rattle.standard.proofs.Table.{heard_more}
use Rattle.table.proofs.Copied.{part_byte}
use Rattle.table.proofs.put_partitions.Goals as goal

pub loop-p-init : goal.loop-p-init
unfolding flat_map up_to done_all
loop-p-init c = refl

pub loop-p-preserved : goal.loop-p-preserved
loop-p-preserved c =
    let m = c.args.message.now in
    let p = c.loop-p.p in
    let h : p < 8 = omega (arith, length-take {A = ℕ}) in
    heard_more partition_place 8 (λ q. byte (2 + q) m) p c.args.table.now c.loop-p.invariant
    c.partition_place-place.ensures
    (part_byte 8 1 p (2 + p) m h (omega arith))
