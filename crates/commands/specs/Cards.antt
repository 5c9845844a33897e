-- Cards for document 02, No. 1: runs from empty slots, and what each call says, typed from its sentences. Assumes
-- nothing.
use Rattle.std.specs.Prelude.{ℕ, List, [], ◌∷◌, ◌++◌, map, drop, replicate, take as firstOnes}
use Rattle.commands.specs.Commands.{Answer}
use Rattle.commands.specs.Runs.{Call, take, tick, told, empty, answers}

-- what a call says: its number, how the front ended, and the message that goes out
abbrev pub Says : Type 0
Says = ℕ × ℕ × List ℕ

pub record Card : Type 0 where
  pub calls : List Call
  pub said : List Says

abbrev pub says_of : Answer → Says
says_of a = (a.number, a.ended, firstOnes a.length a.message)

-- what the calls of a card say
abbrev pub ran_of : Card → List Says
ran_of c = map says_of (answers c.calls empty)

abbrev card : List Call → List Says → Card
card calls said = record { calls = calls; said = said }

-- ---- messages: a bypass of zone 6 and of zone 7; the code of user 1, set with a PIN and without; its authority

abbrev zone_six : List ℕ
zone_six = 0x3F ∷ 0x05 ∷ []

abbrev zone_seven : List ℕ
zone_seven = 0x3F ∷ 0x06 ∷ []

abbrev code_with_pin : List ℕ
code_with_pin = 0x34 ∷ 0x21 ∷ 0x43 ∷ 0x65 ∷ 0x01 ∷ 0x21 ∷ 0x43 ∷ 0x65 ∷ []

abbrev code : List ℕ
code = 0x35 ∷ 0x01 ∷ 0x21 ∷ 0x43 ∷ 0x65 ∷ []

abbrev authority : List ℕ
authority = 0x36 ∷ 0x21 ∷ 0x43 ∷ 0x65 ∷ 0x01 ∷ 0x00 ∷ 0x01 ∷ []

-- 12h, the user's information
abbrev information : List ℕ
information = 0x12 ∷ 0x01 ∷ 0x21 ∷ 0x43 ∷ 0x65 ∷ 0x00 ∷ 0x01 ∷ []

-- ---- what is said

abbrev nothing : Says
nothing = (0, 0, [])

abbrev refused : ℕ → Says
refused number = (number, 0, [])

abbrev goes : List ℕ → Says
goes m = (0, 0, m)

abbrev ended : ℕ → Says
ended how = (0, how, [])

-- "with the flag set"
abbrev six : Says
six = goes (0xBF ∷ 0x05 ∷ [])

-- five ticks that say nothing, and one more
abbrev sixth : Says → List Says
sixth says = replicate 5 nothing ++ (says ∷ [])

abbrev pub cards : List Card
cards =
    -- "again after each 6 ticks without an end"; "after four sendings the next .. sixth tick gives it up"
    card (take zone_six ∷ replicate 24 tick) ((six ∷ sixth six) ++ sixth six ++ sixth six ++ sixth (ended 1))
    -- "at once on a good 1Eh"; "after four sendings the next 1Eh"
    ∷ card (take zone_six ∷ replicate 4 (told (0x1E ∷ []))) (six ∷ six ∷ six ∷ six ∷ ended 1 ∷ [])
    -- "each sending starts the count of six ticks afresh"
    ∷ card ((take zone_six ∷ replicate 5 tick) ++ (told (0x1E ∷ []) ∷ replicate 6 tick))
    ((six ∷ replicate 5 nothing) ++ (six ∷ sixth six))
    -- "It ends by a good 1D, 1C or 1F", its flag set or not
    ∷ card (take zone_six ∷ told (0x1D ∷ []) ∷ []) (six ∷ ended 0x1D ∷ [])
    ∷ card (take zone_six ∷ told (0x9C ∷ []) ∷ []) (six ∷ ended 0x1C ∷ [])
    ∷ card (take zone_six ∷ told (0x1F ∷ []) ∷ []) (six ∷ ended 0x1F ∷ [])
    -- "34h and 35h also by a good 12h", and no other
    ∷ card (take code_with_pin ∷ told information ∷ []) (goes (0xB4 ∷ drop 1 code_with_pin) ∷ ended 0x12 ∷ [])
    ∷ card (take code ∷ told information ∷ []) (goes (0xB5 ∷ drop 1 code) ∷ ended 0x12 ∷ [])
    ∷ card (take authority ∷ told information ∷ []) (goes (0xB6 ∷ drop 1 authority) ∷ nothing ∷ [])
    -- "oldest first, one outstanding", and out "when it becomes the front"
    ∷ card (take zone_six ∷ take zone_seven ∷ told (0x1D ∷ []) ∷ told (0x1F ∷ []) ∷ [])
    (six ∷ nothing ∷ (0, 0x1D, 0xBF ∷ 0x06 ∷ []) ∷ ended 0x1F ∷ [])
    -- "Ends and 1Eh with nothing waiting, and all other messages, change nothing"
    ∷ card (told (0x1D ∷ []) ∷ told (0x1E ∷ []) ∷ tick ∷ take zone_six ∷ told (0x21 ∷ []) ∷ told zone_six ∷ [])
    (nothing ∷ nothing ∷ nothing ∷ six ∷ nothing ∷ nothing ∷ [])
    -- "13 not one of the 14, after 8"
    ∷ card
    (take [] ∷ take (0x02 ∷ []) ∷ take (0x3F ∷ []) ∷ take (0x3E ∷ 0x10 ∷ 0x01 ∷ []) ∷ take (0x25 ∷ 0xF1 ∷ [])
    ∷ take (0x25 ∷ 0xF0 ∷ []) ∷ [])
    (refused 4 ∷ refused 6 ∷ refused 7 ∷ refused 8 ∷ refused 8 ∷ refused 13 ∷ [])
    ∷ card (told [] ∷ told (0x02 ∷ []) ∷ told (0x1D ∷ 0x00 ∷ []) ∷ told (0x25 ∷ 0xF1 ∷ []) ∷ [])
    (refused 4 ∷ refused 6 ∷ refused 7 ∷ refused 8 ∷ [])
    -- "14 all eight waiting, last"; a freed slot "is used again"
    ∷ card (replicate 9 (take zone_six) ++ (take (0x21 ∷ []) ∷ told (0x1D ∷ []) ∷ take zone_seven ∷ take zone_seven ∷ []))
    ((six ∷ replicate 7 nothing) ++ (refused 14 ∷ refused 13 ∷ (0, 0x1D, 0xBF ∷ 0x05 ∷ []) ∷ nothing ∷ refused 14 ∷ []))
    ∷ []

-- two commands, and then so many ticks: a gateway that says nothing
abbrev pub two_then_ticks : ℕ → List Call
two_then_ticks n = take zone_six ∷ take zone_seven ∷ replicate n tick
