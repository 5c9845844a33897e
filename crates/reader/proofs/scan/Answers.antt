-- `reader::scan` meets its contract: past the tests it is the read. Assumes nothing.
use Rattle.std.proofs.Common.{arith}
use Rattle.reader.proofs.Functions.CodeLoop.{lent_reads}
use Rattle.reader.proofs.scan.Goals as goal

pub returns : goal.returns
returns c = lent_reads _ c.args.bytes.now _ _ _ (omega arith) c.go.ensures
