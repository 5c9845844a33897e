-- The zone's part is laid over six zeros. Assumes nothing.
use Rattle.std.proofs.Common.{◌∙◌, arith}
use Rattle.standard.specs.Questions.{table_refusal, zone_part}
use Rattle.nx584.proofs.Parts.{value_or, zone_sized, part_laid}
use Rattle.nx584.proofs.nx584_zone.Goals as goal

pub returns : goal.returns
returns c =
    let t = c.args.table.now in
    let zone = c.args.zone in
    let part = c.zone_part-part.ensures in
    let bytes = part_laid (table_refusal t) 6 (zone_part t zone) _ (zone_sized t zone (omega arith))
    (c.bytes_of.ensures ∙ part.gives) c.array_of.ensures in
    let number = c.number_of.ensures ∙ part.says in
    let mark = c.unwrap_or.ensures ∙ value_or c.zone_mark.result ∙ c.zone_mark.ensures.gives in
    let flags = c.unwrap_or-2.ensures ∙ value_or c.zone_short.result ∙ c.zone_short.ensures.gives in
    rw (number, mark, flags, bytes)
