-- `station_log::close_up` meets its contract: each record is moved behind the one before. Assumes nothing.
use Rattle.std.proofs.Common.{ℕ, ◌+◌, sym, subst, arith}
use Rattle.station_log.proofs.Moving.{Moved, moved_none, next, moved_one, moved_all}
use Rattle.station_log.proofs.close_up.Goals as goal

pub loop-last-init : goal.loop-last-init
loop-last-init c = moved_none c.args.log.now c.args.places.now c.requires

pub move_record-to-requires : goal.move_record-to-requires
move_record-to-requires c =
    let l = c.loop-last in
    let n = next c.args.log.now c.args.places.now l.log l.to l.last-index l.invariant c.loop-last-test.true in
    (n.inside, n.behind)

pub loop-last-preserved : goal.loop-last-preserved
loop-last-preserved c =
    let l = c.loop-last in
    let a = c.args in
    let call = c.move_record-to in
    let went = moved_one a.log.now a.places.now l.log l.to l.last-index l.invariant c.loop-last-test.true call.ensures.log_after in
    subst (λ (k : ℕ). Moved a.log.now a.places.now call.new.log k (l.last-index + 1)) (sym call.ensures.value) went

pub returns : goal.returns
returns c =
    let l = c.loop-last in
    let within = l.invariant.within in
    let all = moved_all c.args.log.now c.args.places.now l.log l.to l.last-index l.invariant (omega arith) in
    record { value = all.0; log_after = all.1 }
