-- The lines of the verdicts, and those of the groups after them, from a fresh table. Assumes nothing.
use mathlib.Core.Path.{ap, ◌∙◌}
use mathlib.Core.List.{List}
use Rattle.std.proofs.Common.{ℕ}
use Rattle.standard.specs.declared.Framing.TheVariants.{Binary}
use Rattle.standard.specs.declared.Escapes.TheVariants.{Lenient}
use Rattle.standard.specs.Stream.{handed_of}
use Rattle.standard.specs.Table.{table_after}
use Rattle.text.proofs.Reports.{report_put}
use Rattle.text.proofs.put_report.Goals as goal

pub returns : goal.returns
returns c =
    let capture = c.args.capture.now in
    let heard =
    c.put_verdicts.ensures.table_after
    ∙ ap (λ (t : List ℕ). table_after t (handed_of Lenient Binary capture)) c.fresh-table.ensures
    in
    report_put capture c.requires c.put_verdicts.new.table heard c.put_verdicts.ensures.put c.put_groups.ensures
