-- The report on the bytes that count, where the longest report fits. Assumes nothing.
use native.Mathlib.Omega.{arith}
use mathlib.Core.Path.{ap, ◌∙◌}
use borrow.Author.Rules.{rules}
use lib.ListN.{take}
use Rattle.standard.specs.Report.{report_of}
use Rattle.text.proofs.Reports.{first_count, answered}
use Rattle.text.proofs.report.Goals as goal

pub returns : goal.returns
returns c =
    let capture = c.args.capture.now in
    let same = ap (λ n. report_of (take n capture)) c.min.ensures ∙ first_count capture in
    let o = c.new-report in
    answered capture c.args.out.now _ _ (omega arith) o.result c.put_report.new.out o.ensures.bytes o.ensures.place
    (rw same at c.put_report.ensures)
    (search rules)
    c.place.ensures
