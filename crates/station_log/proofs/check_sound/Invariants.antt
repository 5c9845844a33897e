-- What `station_log::check_sound` needs at its loop: what is left is sound if the whole is.
use Rattle.std.proofs.Common.{◌≡◌, length}
use Rattle.station_log.specs.Log.{sound}
use Rattle.station_log.proofs.check_sound.Given as goal

abbrev pub invariant-loop-older : goal.invariant-loop-older
invariant-loop-older l = sound l.left ≡ sound l.log

abbrev pub decreases-loop-older : goal.decreases-loop-older
decreases-loop-older l = length l.left
