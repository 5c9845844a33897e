-- What `station_log::newest_in` needs at its loop: what is found in the rest is found in the whole.
use Rattle.std.proofs.Common.{◌≡◌, length}
use Rattle.station_log.specs.Places.{found_in}
use Rattle.station_log.proofs.newest_in.Given as goal

abbrev pub invariant-loop-older : goal.invariant-loop-older
invariant-loop-older l = found_in l.rest l.zone ≡ found_in l.log l.zone

abbrev pub decreases-loop-older : goal.decreases-loop-older
decreases-loop-older l = length l.rest
