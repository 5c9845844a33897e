-- `station_log::walk` meets its contract: a turn notes the last record, and remembers its place where it stays. Assumes
-- nothing.
use Rattle.std.proofs.Common.{sym, ◌∙◌, arith}
use Rattle.std.proofs.lemmas.Result.{err_from_is_err_and}
use Rattle.station_log.proofs.Going.{going_start, going_on, one_left, going_kept, going_all, going_stopped}
use Rattle.station_log.proofs.walk.Goals as goal

pub loop-older-init : goal.loop-older-init
loop-older-init c = going_start c.args.log.now c.args.places.now c.requires (λ i. omega (arith, c.type_inv.log i)) (omega arith)

pub overflow_sub-first : goal.overflow_sub-first
overflow_sub-first c =
    one_left c.loop-older.invariant c.in-Some.ensures (sym c.note.ensures.value ∙ c.if-note.true)

pub loop-older-preserved-then-note : goal.loop-older-preserved-then-note
loop-older-preserved-then-note c =
    rw c.note.ensures.cells_after
    (going_kept c.loop-older.invariant c.in-Some.ensures (omega arith)
    (sym c.note.ensures.value ∙ c.if-note.true))

pub loop-older-preserved : goal.loop-older-preserved
loop-older-preserved c =
    rw c.note.ensures.cells_after
    (going_on c.loop-older.invariant c.in-Some.ensures (sym c.note.ensures.value ∙ c.if-note.false))

pub returns-in_err-check_sound : goal.returns-in_err-check_sound
returns-in_err-check_sound c =
    let p = err_from_is_err_and c.from_residual.result c.from_residual.ensures.1 in
    let unsound = c.in_err-check_sound.ensures in
    rw (p.1, p.2) (going_stopped c.loop-older.invariant unsound.0, unsound.1)

pub returns : goal.returns
returns c = going_all c.loop-older.invariant c.in_default.ensures (omega arith) c.in_ok-check_sound.ensures
