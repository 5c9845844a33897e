-- `table::put_partition` meets its contract: a bit of its mark is set, and a part of the message is stored after it.
-- Assumes nothing.
use Rattle.std.proofs.Common.{arith}
use Rattle.standard.specs.Table.{done_all}
use Rattle.table.proofs.Copied.{copied_after}
use Rattle.table.proofs.put_partition.Goals as goal

pub returns : goal.returns
unfolding done_all
returns c =
    let m = c.args.message.now in
    let t = c.args.table.now in
    let place = c.partition_place-place.result in
    rw (← c.from.ensures, ← c.partition_place-place.ensures)
    (copied_after place _ 7 2 m t (omega arith) (omega arith) (omega arith) c.copy_from_slice.ensures.after)
