-- After j turns the counts are those of the run's first j zones, at most j each. Assumes nothing.
use Rattle.std.proofs.Common.{◌≡◌, ◌≤◌}
use Rattle.standard.specs.Overview.{heard_from, faulted_from}
use Rattle.overview.proofs.run.Given as goal

abbrev pub invariant-loop-j : goal.invariant-loop-j
invariant-loop-j l = record {
  heard : l.counts.heard ≡ heard_from l.table l.from l.j;
  faulted : l.counts.faulted ≡ faulted_from l.table l.from l.j;
  few_heard : l.counts.heard ≤ l.j;
  few_faulted : l.counts.faulted ≤ l.j;
}
