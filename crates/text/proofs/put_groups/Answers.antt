-- Each group's counts are the table's. Assumes nothing.
use mathlib.Core.List.{flat_map}
use Rattle.standard.specs.Words.{up_to}
use Rattle.standard.specs.Report.{group_line}
use Rattle.puts.proofs.Puts.{puts_none, puts_then}
use Rattle.text.proofs.Groups.{lines_more, line_seen}
use Rattle.text.proofs.put_groups.Goals as goal

pub loop-index-init : goal.loop-index-init
unfolding flat_map up_to
loop-index-init c = puts_none _

pub loop-index-preserved : goal.loop-index-preserved
loop-index-preserved c =
    let line =
    line_seen c.args.table.now c.loop-index.index c.group-group.result c.requires c.loop-index-test.true c.group-group.ensures
    in
    rw (lines_more (group_line c.args.table.now) c.loop-index.index)
    (puts_then c.loop-index.invariant (rw line at c.put_group.ensures))
