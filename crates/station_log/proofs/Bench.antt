-- THE CARDS OF THE LOG: each question, each message and each log of Cards is answered as its card says. Assumes
-- nothing.
use mathlib.Core.Path.{◌≡◌, refl}
use mathlib.Core.List.{map, flat_map}
use Rattle.standard.specs.Words.{up_to}
use Rattle.standard.specs.Table.{stores_from, writes_of}
use Rattle.standard.specs.Messages.{length_for, values_ok, check_of, is_status}
use Rattle.station_log.specs.Log.{walked_back, all_kept, records_of, sound, about, from_newest, first_record, first_place}
use Rattle.station_log.specs.Log.{joined, log_refusal, found_of, keep_refusal, added_of}
use Rattle.station_log.specs.Room.{all_writes, stored, marked, all_again, needless, kept_of, smaller, won_of, after_room}
use Rattle.station_log.specs.Cards.{Asked, Told, asked_of, told_of, roomed_of, roomed_as, asking, telling, rooms}

pub questions : map asked_of asking ≡ map (λ (c : Asked). c.said) asking
unfolding found_of log_refusal sound records_of walked_back all_kept is_status check_of length_for values_ok about from_newest
    first_record first_place joined
questions = refl

pub messages : map told_of telling ≡ map (λ (c : Told). c.said) telling
unfolding added_of keep_refusal sound records_of walked_back all_kept is_status check_of length_for values_ok
messages = refl

pub rooms_made : map roomed_of rooms ≡ map roomed_as rooms
unfolding won_of after_room smaller kept_of needless all_again all_writes stored marked writes_of stores_from flat_map up_to
    log_refusal sound records_of walked_back all_kept is_status check_of length_for values_ok joined
rooms_made = refl
