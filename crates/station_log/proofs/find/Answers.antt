-- `station_log::find` meets its contract: of a log that is not beyond, what is found in the used bytes. Assumes nothing.
use Rattle.std.proofs.Common.{ap, subst, ◌∙◌}
use Rattle.std.proofs.lemmas.Result.{err_from_is_err_and}
use Rattle.standard.specs.declared.Refusal.TheVariants.{BeyondLog}
use Rattle.station_log.specs.Answers.{Finds}
use Rattle.station_log.specs.Places.{found_in}
use Rattle.station_log.proofs.Finding.{found_beyond, found_used, finds_refused}
use Rattle.station_log.proofs.find.Goals as goal

pub returns-in_err-used_part : goal.returns-in_err-used_part
returns-in_err-used_part c =
    let p = err_from_is_err_and c.from_residual.result c.from_residual.ensures.1 in
    let beyond = c.in_err-used_part.ensures in
    rw (p.1, p.2, beyond.1) (finds_refused BeyondLog (found_beyond c.args.log.now c.args.used c.args.zone beyond.0))

pub returns : goal.returns
returns c =
    let a = c.args in
    let part = c.in_ok-used_part.ensures in
    subst (λ place. Finds place c.newest_in.result)
    (ap (λ l. found_in l a.zone) part.1 ∙ found_used a.log.now a.used a.zone part.0) c.newest_in.ensures
