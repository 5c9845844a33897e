-- `station_log::make_room` meets its contract: nothing is moved before the walk has come to the beginning. Assumes nothing.
use Rattle.std.proofs.Common.{sym, ap, ◌∙◌, arith}
use Rattle.std.proofs.lemmas.Result.{err_from_is_err_and}
use Rattle.station_log.specs.Log.{sound}
use Rattle.station_log.specs.Cells.{places_in}
use Rattle.station_log.proofs.Refusing.{inside}
use Rattle.station_log.proofs.Smaller.{room_16, room_17, lent_apart, left_less, room_made}
use Rattle.station_log.proofs.make_room.Goals as goal

pub returns-in_err-used_part : goal.returns-in_err-used_part
returns-in_err-used_part c =
    let p = err_from_is_err_and c.from_residual.result c.from_residual.ensures.1 in
    let beyond = c.in_err-used_part.ensures in
    rw (p.1, p.2, beyond.1) (room_16 c.args.log.now c.args.used beyond.0)

pub returns-in_err-stay : goal.returns-in_err-stay
returns-in_err-stay c =
    let p = err_from_is_err_and c.from_residual-in_err-stay.result c.from_residual-in_err-stay.ensures.1 in
    let part = c.in_ok-used_part.ensures in
    let unsound = c.in_err-stay.ensures in
    rw (p.1, p.2, unsound.1) (room_17 c.args.log.now c.args.used part.0 (sym (ap sound part.1) ∙ unsound.0))

pub close_up-left-requires : goal.close_up-left-requires
close_up-left-requires c =
    let part = c.in_ok-used_part.ensures in
    let stay = c.in_ok-stay.ensures in
    lent_apart c.args.log.now c.args.used part.0 (sym (ap sound part.1) ∙ stay.0) _ (stay.1 ∙ ap places_in part.1)

pub overflow_sub-result : goal.overflow_sub-result
overflow_sub-result c =
    let part = c.in_ok-used_part.ensures in
    let stay = c.in_ok-stay.ensures in
    let l = left_less c.args.log.now c.args.used part.0 (sym (ap sound part.1) ∙ stay.0) _ (stay.1 ∙ ap places_in part.1)
    (inside c.args.log.now c.args.used part.0).buffer in
    let e = c.close_up-left.ensures.value in
    omega arith

pub returns : goal.returns
returns c =
    let part = c.in_ok-used_part.ensures in
    let stay = c.in_ok-stay.ensures in
    let moved = c.close_up-left.ensures in
    room_made c.args.log.now c.args.used part.0 (sym (ap sound part.1) ∙ stay.0) _ (stay.1 ∙ ap places_in part.1) moved.value
    moved.log_after
