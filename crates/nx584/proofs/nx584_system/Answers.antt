-- The system's part is laid over twelve zeros, and eleven of its bytes over eleven. Assumes nothing.
use Rattle.std.proofs.Common.{◌∙◌, drop, arith}
use lib.ListN.{length-drop}
use lib.Seq.{take_all}
use Rattle.standard.specs.Questions.{table_refusal, system_part}
use Rattle.nx584.proofs.Parts.{system_sized, part_fits, part_laid, part_within, part_size, system_told}
use Rattle.nx584.proofs.nx584_system.Goals as goal

pub array_of-record-requires : goal.array_of-record-requires
array_of-record-requires c =
    let t = c.args.table.now in (
      omega arith,
      part_fits (table_refusal t) 12 (system_part t) _ (system_sized t)
          (c.bytes_of.ensures ∙ c.system_part-part.ensures.gives),
    )

pub returns : goal.returns
returns c =
    let t = c.args.table.now in
    let part = c.system_part-part.ensures in
    let gives = c.bytes_of.ensures ∙ part.gives in
    let twelve = part_laid (table_refusal t) 12 (system_part t) _ (system_sized t) gives
    c.array_of-record.ensures in
    let record_of = c.array_of-record.result in
    let size = part_size (table_refusal t) 12 (system_part t) _ (system_sized t) gives twelve in
    let eleven = part_within (table_refusal t) 12 (system_part t) _ (system_sized t) gives 11 (omega arith) twelve c.array_of.ensures
    ∙ take_all 11 (drop 1 record_of) (omega (arith, length-drop 1 record_of, size)) in
    rw (c.number_of.ensures ∙ part.says, eleven, twelve) (system_told t)
