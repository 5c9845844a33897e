-- `station_log::newest` meets its contract: what was found is a part of the log. Assumes nothing.
use Rattle.std.proofs.Common.{◌≡◌, ◌+◌, ◌-◌, sym, subst, [], take, drop, arith}
use Rattle.std.proofs.lemmas.Result.{err_from_is_err_and}
use Rattle.standard.specs.Questions.{Answered}
use Rattle.station_log.specs.Log.{log_refusal, newest_of}
use Rattle.station_log.proofs.Finding.{Handed, handed, answered}
use Rattle.station_log.proofs.newest.Goals as goal

pub returns-in_err-at-clause-part : goal.returns-in_err-at-clause-part
returns-in_err-at-clause-part c =
    let a = c.args in
    let p = err_from_is_err_and c.from_residual.result c.from_residual.ensures.1 in
    rw (p.1, p.2) (answered a.log.now a.used a.zone _ c.in_err-at.ensures.says)

pub returns-in_default-clause-part : goal.returns-in_default-clause-part
returns-in_default-clause-part c =
    let a = c.args in
    answered a.log.now a.used a.zone (record { number = 0; at = 0; length = 0 }) (rw c.in_default.is at c.in_ok-at.ensures.says)

pub overflow_add-result : goal.overflow_add-result
overflow_add-result c =
    let a = c.args in
    let says = rw c.in-Some.is at c.in_ok-at.ensures.says in
    let part = subst (Handed a.log.now a.used a.zone) (sym says) (handed a.log.now a.used a.zone) in
    let h = part.within in
    omega arith

pub slice_bounds-result-end : goal.slice_bounds-result-end
slice_bounds-result-end c =
    let a = c.args in
    let says = rw c.in-Some.is at c.in_ok-at.ensures.says in
    let part = subst (Handed a.log.now a.used a.zone) (sym says) (handed a.log.now a.used a.zone) in
    let h = part.within in
    omega arith

pub returns-clause-part : goal.returns-clause-part
returns-clause-part c =
    let a = c.args in
    let found = c.in-Some.field-0 in
    let says = rw c.in-Some.is at c.in_ok-at.ensures.says in
    let size : found.at + found.length - found.at ≡ found.length = omega arith in
    subst (λ n. Answered [] (log_refusal a.log.now a.used) (newest_of (take a.used a.log.now) a.zone) 0
    (take n (drop found.at a.log.now)))
    (sym size) (answered a.log.now a.used a.zone (record { number = 0; at = found.at; length = found.length }) says)
