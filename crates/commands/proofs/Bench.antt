-- THE CARDS HOLD: each run says what document 02, No. 1, says, and a command can wait as long as it says. Assumes
-- nothing.
use mathlib.Core.Path.{◌≡◌, refl}
use mathlib.Core.Option.{none, some}
use mathlib.Core.List.{map}
use Rattle.standard.specs.Messages.{length_for, values_ok, check_of}
use Rattle.commands.specs.Commands.{one_of_them, flagged, those, every, used_first, holds_one, sound, goes_out, take_of}
use Rattle.commands.specs.Commands.{tick_of, ends, told_of}
use Rattle.commands.specs.Runs.{called, empty, answers, is_tick, ticks_in, lower, moved}
use Rattle.commands.specs.Runs.{place_after}
use Rattle.commands.specs.Cards.{cards, ran_of, two_then_ticks}

-- what is only computed
record Computed : Type 0 where
  said : map ran_of cards ≡ map (λ c. c.said) cards
  ticks : ticks_in (two_then_ticks 47) ≡ 47
  waits : place_after (answers (two_then_ticks 47) empty) (some 1) ≡ some 0
  ended : place_after (answers (two_then_ticks 48) empty) (some 1) ≡ none

computed : Computed
unfolding length_for values_ok check_of one_of_them flagged those every used_first holds_one sound goes_out take_of tick_of
    ends told_of called answers is_tick ticks_in lower moved place_after
computed = record { said = refl; ticks = refl; waits = refl; ended = refl }

pub bench : map ran_of cards ≡ map (λ c. c.said) cards
bench = computed.said

-- 24 × (k + 1) IS NOT TOO MANY: with one ahead of it, a command still waits after 47 ticks, and has ended after 48
pub still_waits : (ticks_in (two_then_ticks 47) ≡ 47) × (place_after (answers (two_then_ticks 47) empty) (some 1) ≡ some 0)
still_waits = (computed.ticks, computed.waits)

pub has_ended : place_after (answers (two_then_ticks 48) empty) (some 1) ≡ none
has_ended = computed.ended
