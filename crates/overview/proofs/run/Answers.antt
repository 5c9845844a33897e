-- What is refused has no counts, and each zone's answers are about it, as the table is whole. Assumes nothing.
use Rattle.std.proofs.Common.{◌≡◌, refl, sym, ap₂, ◌∙◌, arith, ◌+◌, min}
use Rattle.standard.specs.Words.{up_to, total}
use Rattle.standard.specs.Table.{heard_zone, short_faulted}
use Rattle.standard.proofs.Words.{total_more}
use Rattle.standard.proofs.Questions.{asked_whole, whole_asked}
use Rattle.standard.proofs.Seen.{run_whole, run_refused, run_beyond}
use Rattle.overview.proofs.Groups.{not_refused, refused, told}
use Rattle.overview.proofs.run.Goals as goal
use Rattle.overview.proofs.run.Goals.{then-is_err-via-then-is_err, then-is_err-via-else-is_err+then-from-n-gt256}

pub returns-then-is_err : goal.returns-then-is_err
returns-then-is_err c =
    let t = c.args.table.now in
    sym (elim c.then-is_err.branch [
      | then-is_err-via-then-is_err w ↦
          run_refused t _ _
          (λ e. refused _ (sym c.is_err.ensures.value ∙ w.if-is_err.true) (c.check.ensures ∙ whole_asked t e))
      | then-is_err-via-else-is_err+then-from-n-gt256 w ↦ run_beyond t _ _ (omega arith)
    ])

pub loop-j-init : goal.loop-j-init
unfolding up_to total
loop-j-init c = record { heard = refl; faulted = refl; few_heard = omega arith; few_faulted = omega arith }

pub loop-j-preserved : goal.loop-j-preserved
loop-j-preserved c =
    let t = c.args.table.now in
    let whole = sym c.check.ensures ∙ not_refused _ (sym c.is_err.ensures.value ∙ c.if-is_err.false) in
    let h = told _ c.unwrap_or-heard.ensures c.zone_heard.ensures whole in
    let s = told _ c.unwrap_or-short.ensures c.zone_short.ensures whole in
    let zone = c.args.from + c.loop-j.j in
    let f : c.smaller.result ≡ min (heard_zone t zone) (short_faulted t zone) =
    c.smaller.ensures ∙ ap₂ min h (omega (arith, s))
    in
    record {
      heard = rw total_more (ap₂ ◌+◌ c.loop-j.invariant.heard h);
      faulted = rw total_more (ap₂ ◌+◌ c.loop-j.invariant.faulted f);
      few_heard = omega arith;
      few_faulted = omega arith;
    }

pub returns : goal.returns
returns c =
    let a = c.args in
    let asked = sym c.check.ensures ∙ not_refused _ (sym c.is_err.ensures.value ∙ c.if-is_err.false) in
    let e : c.loop-j.j ≡ a.n = omega arith in
    let inv = rw e at c.loop-j.invariant in
    (λ i. record { heard = inv.heard i; faulted = inv.faulted i })
    ∙ sym (run_whole a.table.now a.from a.n (asked_whole a.table.now asked) (omega arith))
