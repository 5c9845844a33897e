-- What `station_log::close_up` needs at its loop: the records at the first places are moved, and the others stand apart behind
-- them.
use Rattle.station_log.proofs.Moving.{Moved}
use Rattle.station_log.proofs.close_up.Given as goal

abbrev pub invariant-loop-last : goal.invariant-loop-last
invariant-loop-last l = Moved l.fn.log l.places l.log l.to l.last-index
