-- `station_log::put` meets its contract: the message is copied to its place, and its length stored behind it. Assumes nothing.
use Rattle.std.proofs.Common.{◌+◌, ◌-◌, length, length-append, arith}
use Rattle.standard.proofs.Put.{copied_to, put_one, put_then, put_laid}
use Rattle.station_log.proofs.put.Goals as goal

pub returns : goal.returns
returns c =
    let a = c.args in
    let m = a.message.now in
    let fit = c.requires.1 in
    let copied = copied_to a.place (a.place + length m - a.place) m a.log.now (omega arith) (omega arith) c.copy_from_slice.ensures.after in
    put_laid (put_then copied (put_one _ (a.place + length m) (length m))) (rw length-append (omega arith))
