-- `station_log::check_keep` meets its contract: past each test the next one answers. Assumes nothing.
use Rattle.std.proofs.Common.{sym, ap, ◌∙◌}
use Rattle.std.proofs.lemmas.Result.{err_from_is_err_and}
use Rattle.standard.proofs.Sheet.{number_not_0}
use Rattle.station_log.specs.Log.{sound}
use Rattle.station_log.proofs.Refusing.{keep_16, keep_17, keep_own, keep_18, keep_9, keep_0}
use Rattle.station_log.proofs.check_keep.Goals as goal

pub returns-in_err-used_part : goal.returns-in_err-used_part
returns-in_err-used_part c =
    let p = err_from_is_err_and c.from_residual.result c.from_residual.ensures.1 in
    let beyond = c.in_err-used_part.ensures in
    rw (p.1, p.2, beyond.1) (sym (keep_16 c.args.log.now c.args.used c.args.message.now beyond.0))

pub returns-in_err-check_sound : goal.returns-in_err-check_sound
returns-in_err-check_sound c =
    let p = err_from_is_err_and c.from_residual-in_err-check_sound.result c.from_residual-in_err-check_sound.ensures.1 in
    let unsound = c.in_err-check_sound.ensures in
    let part = c.in_ok-used_part.ensures in
    rw (p.1, p.2, unsound.1)
    (sym (keep_17 c.args.log.now c.args.used c.args.message.now part.0 (sym (ap sound part.1) ∙ unsound.0)))

pub returns-in_err-check : goal.returns-in_err-check
returns-in_err-check c =
    let p = err_from_is_err_and c.from_residual-in_err-check.result c.from_residual-in_err-check.ensures.1 in
    let own = c.in_err-check.ensures in
    let part = c.in_ok-used_part.ensures in
    rw (p.1, p.2)
    (own ∙ sym (keep_own c.args.log.now c.args.used c.args.message.now part.0
    (sym (ap sound part.1) ∙ c.in_ok-check_sound.ensures) (λ z. number_not_0 c.in_err-check.field-0.0 (own ∙ z))))

pub returns-then-not-is_status : goal.returns-then-not-is_status
returns-then-not-is_status c =
    let part = c.in_ok-used_part.ensures in
    sym (keep_18 c.args.log.now c.args.used c.args.message.now part.0
    (sym (ap sound part.1) ∙ c.in_ok-check_sound.ensures) (sym c.in_ok-check.ensures)
    (sym c.is_status.ensures ∙ c.if-not-is_status.true))

pub returns-then-is_beyond : goal.returns-then-is_beyond
returns-then-is_beyond c =
    let part = c.in_ok-used_part.ensures in
    sym (keep_9 c.args.log.now c.args.used c.args.message.now part.0
    (sym (ap sound part.1) ∙ c.in_ok-check_sound.ensures) (sym c.in_ok-check.ensures)
    (sym c.is_status.ensures ∙ c.if-not-is_status.false) (sym c.is_beyond.ensures ∙ c.if-is_beyond.true))

pub returns-else-is_beyond : goal.returns-else-is_beyond
returns-else-is_beyond c =
    let part = c.in_ok-used_part.ensures in
    sym (keep_0 c.args.log.now c.args.used c.args.message.now part.0
    (sym (ap sound part.1) ∙ c.in_ok-check_sound.ensures) (sym c.in_ok-check.ensures)
    (sym c.is_status.ensures ∙ c.if-not-is_status.false) (sym c.is_beyond.ensures ∙ c.if-is_beyond.false))
