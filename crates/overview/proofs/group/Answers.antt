-- A group is the run of sixteen zones from its first on, and a run goes as far as zone 256. Assumes nothing.
use Rattle.std.proofs.Common.{ap, ◌∙◌}
use Rattle.overview.proofs.Groups.{shared, group_run}
use Rattle.overview.proofs.group.Goals as goal

pub returns-then-index-lt16 : goal.returns-then-index-lt16
returns-then-index-lt16 c =
    c.shared.ensures ∙ ap shared c.run.ensures ∙ group_run c.args.table.now c.args.index c.if-index-lt16.true
