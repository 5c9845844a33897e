-- What `station_log::walk` needs at its loop: the places remembered, with those of the records still to come, are the places
-- of the records that stay.
use Rattle.std.proofs.Common.{length}
use Rattle.station_log.proofs.Going.{Going}
use Rattle.station_log.proofs.walk.Given as goal

abbrev pub invariant-loop-older : goal.invariant-loop-older
invariant-loop-older l = Going l.log l.cells l.places l.rest l.first

abbrev pub decreases-loop-older : goal.decreases-loop-older
decreases-loop-older l = length l.rest
