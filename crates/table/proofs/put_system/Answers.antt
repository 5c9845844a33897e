-- `table::put_system` meets its contract: its mark is stored, and a part of the message after it. Assumes nothing.
use Rattle.std.proofs.Common.{refl, arith}
use Rattle.standard.specs.Table.{system_place, stores_from, done_all}
use Rattle.table.proofs.Copied.{copied_after}
use Rattle.table.proofs.put_system.Goals as goal

pub returns : goal.returns
unfolding done_all stores_from
returns c =
    let m = c.args.message.now in
    let t = c.args.table.now in
    copied_after system_place 1 11 1 m t (omega arith) (omega arith) refl c.copy_from_slice.ensures.after
