-- `station_log::newest_in` meets its contract: a record about the zone is the newest if all before it is a log, and else there is
-- no log. Assumes nothing.
use Rattle.std.proofs.Common.{◌-◌, sym, ap, ◌∙◌, [], ◌∷◌, length, length-append, arith}
use Rattle.std.proofs.lemmas.Result.{err_from_is_err_and}
use Rattle.standard.specs.declared.Refusal.TheVariants.{LogNotSound}
use Rattle.station_log.specs.Log.{record_of}
use Rattle.station_log.proofs.Backwards.{sound_back}
use Rattle.station_log.proofs.Finding.{found_unsound, found_all, found_here, finds_none, finds_refused, finds_one}
use Rattle.station_log.proofs.newest_in.Goals as goal

pub returns-in_err-check_sound : goal.returns-in_err-check_sound
returns-in_err-check_sound c =
    let p = err_from_is_err_and c.from_residual.result c.from_residual.ensures.1 in
    let unsound = sym (sound_back c.in-Some.ensures) ∙ c.in_err-check_sound.ensures.0 in
    rw (p.1, p.2, c.in_err-check_sound.ensures.1)
    (finds_refused LogNotSound (sym c.loop-older.invariant ∙ found_unsound c.loop-older.rest.now c.args.zone unsound))

pub returns-then-is_about : goal.returns-then-is_about
returns-then-is_about c =
    let record_ends = c.in-Some.ensures in
    let older = c.in-Some.older.now in
    let message = c.in-Some.message.now in
    let n = ap length record_ends.bytes in
    let k = length-append older (record_of message) in
    let l = length-append message (length message ∷ []) in
    finds_one (length older) (length c.loop-older.rest.now - length older)
    (found_here c.args.zone record_ends (sym c.is_about.ensures ∙ c.if-is_about.true) c.in_ok-check_sound.ensures
    ∙ c.loop-older.invariant)
    (omega arith)

pub returns-in_err-check_sound-2 : goal.returns-in_err-check_sound-2
returns-in_err-check_sound-2 c =
    let p = err_from_is_err_and c.from_residual-in_err-check_sound-2.result c.from_residual-in_err-check_sound-2.ensures.1 in
    let unsound = c.in_err-check_sound-2.ensures in
    rw (p.1, p.2, unsound.1)
    (finds_refused LogNotSound (sym c.loop-older.invariant ∙ found_unsound c.loop-older.rest.now c.args.zone unsound.0))

pub returns : goal.returns
returns c =
    finds_none
    (sym c.loop-older.invariant
    ∙ found_all c.loop-older.rest.now c.args.zone c.in_default.ensures c.in_ok-check_sound-2.ensures)
