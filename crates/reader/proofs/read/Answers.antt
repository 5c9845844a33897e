-- `reader::read` meets its contract: it lends its reader's array. Assumes nothing.
use Rattle.std.proofs.Common.{rules}
use Rattle.reader.proofs.State.Arrays.{lent_is_read}
use Rattle.reader.proofs.read.Goals as goal

pub returns : goal.returns
returns c = lent_is_read c.args.reader c.args.bytes.now _ _ _ (search rules) c.scan-mode.ensures
