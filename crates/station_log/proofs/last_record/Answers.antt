-- `station_log::last_record` meets its contract: where `is_status` refuses the message that a record would have, none ends there.
-- Assumes nothing.
use Rattle.std.proofs.Common.{sym, ap, ◌∙◌, drop}
use mathlib.Core.Bool.{false≢true}
use Rattle.standard.specs.Messages.{is_status}
use Rattle.station_log.proofs.Backwards.{message_at}
use Rattle.station_log.proofs.last_record.Goals as goal

pub returns-else-is_status : goal.returns-else-is_status
returns-else-is_status c = λ older m e.
    let before = c.in_ok-trailer.before.now in
    let start = c.in_ok-start.ensures.1 in
    let message =
    message_at before c.in_ok-trailer.field-0-0.now c.in_ok-trailer.ensures.cases.0 e in
    false≢true (sym c.if-is_status.false ∙ c.is_status.ensures ∙ ap is_status (c.split_at.ensures.back ∙ ap (λ k. drop k before) start ∙ message) ∙ e.kept)
