-- The partition's part is laid over nine zeros, and seven of its bytes over seven. Assumes nothing.
use Rattle.std.proofs.Common.{◌∙◌, arith}
use Rattle.standard.specs.Questions.{partition_refusal, partition_part}
use Rattle.nx584.proofs.Parts.{partition_sized, part_laid, part_within, partition_told}
use Rattle.nx584.proofs.nx584_partition.Goals as goal

pub returns : goal.returns
returns c =
    let t = c.args.table.now in
    let p = c.args.partition in
    let part = c.partition_part-part.ensures in
    let gives = c.bytes_of.ensures ∙ part.gives in
    let nine = part_laid (partition_refusal t p) 9 (partition_part t p) _ (partition_sized t p) gives
    c.array_of-record.ensures in
    let seven = part_within (partition_refusal t p) 9 (partition_part t p) _ (partition_sized t p) gives
    7 (omega arith) nine c.array_of.ensures in
    rw (c.number_of.ensures ∙ part.says, seven, nine) (partition_told t p)
