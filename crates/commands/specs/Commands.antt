-- Document 02, No. 1, "Commands that are repeated until acknowledged". Each definition stands under the words that it
-- reads. Assumes nothing.
use Rattle.std.specs.Prelude.{Option, Some, None, Result, Ok, Err, ℕ, ◌+◌, ◌%◌, Bool, true, cond, not, ◌&&◌, ◌||◌, List, [], ◌∷◌, ◌++◌, eqb, leb, length, take, drop, replicate}
use Rattle.standard.specs.Words.{byte, first_of, laid}
use Rattle.standard.specs.declared.Refusal.{Refusal}
use Rattle.standard.specs.Refusals.{refusal_number}
use Rattle.standard.specs.Messages.{number_of, among, within, message_tests, check_of}
use Rattle.commands.specs.declared.Slot.{Slot}
use Rattle.commands.specs.declared.Ended.{Ended}
use Rattle.commands.specs.declared.Ended.TheVariants.{GivenUp, Acknowledged, Failed, Rejected, Replied}
use Rattle.commands.specs.declared.Sending.{Sending}

-- ---- the commands

-- "It takes the 14 numbers 29, 2B, 2C, 31, 34 to 37, 3A, 3B and 3C to 3F"
abbrev pub fourteen : List ℕ
fourteen =
    0x29 ∷ 0x2B ∷ 0x2C ∷ 0x31 ∷ 0x34 ∷ 0x35 ∷ 0x36 ∷ 0x37 ∷ 0x3A ∷ 0x3B ∷ 0x3C ∷ 0x3D ∷ 0x3E ∷ 0x3F ∷ []

unfoldable pub one_of_them : ℕ → Bool
one_of_them n = among n fourteen

-- the longest of them, 31h
abbrev pub longest_command : ℕ
longest_command = 13

-- "with the flag set"
unfoldable pub flagged : List ℕ → List ℕ
flagged [] = []
flagged (t ∷ m) = (128 + t % 128) ∷ m

-- a message in an array, zero beyond its end
abbrev pub padded : List ℕ → List ℕ
padded m = laid (replicate longest_command 0) 0 m

-- ---- the slots

-- "a freed slot, left all zero"
abbrev pub blank : Slot
blank = record { length = 0; sent = 0; ticks = 0; message = replicate longest_command 0 }

abbrev pub used : Slot → Bool
used s = not (eqb s.length 0)

abbrev pub unused : Slot → Bool
unused s = eqb s.length 0

abbrev pub message_in : Slot → List ℕ
message_in s = take s.length s.message

abbrev pub number_in : Slot → ℕ
number_in s = number_of (byte 1 (message_in s))

-- those of some slots that pass a test, in their order; whether every one does
unfoldable pub those : (Slot → Bool) → List Slot → List Slot
those p [] = []
those p (s ∷ t) = let rest = those p t in cond (p s) (s ∷ rest) rest

unfoldable pub every : (Slot → Bool) → List Slot → Bool
every p [] = true
every p (s ∷ t) = p s && every p t

-- the commands that wait, oldest first, and how many they are
abbrev pub waiting_in : List Slot → List Slot
waiting_in xs = those used xs

abbrev pub waiting : List Slot → ℕ
waiting xs = length (waiting_in xs)

-- ---- soundness

-- "the used ones stand first": behind a free one none is used
unfoldable pub used_first : List Slot → Bool
used_first [] = true
used_first (s ∷ t) = cond (used s) (used_first t) (every unused t)

-- "holds a good one of the 14"
unfoldable pub holds_one : Slot → Bool
holds_one s = leb s.length longest_command && eqb (check_of (message_in s)) 0 && one_of_them (number_in s)

-- "one to four times, with 0 to 5 ticks counted"
abbrev pub outstanding : Slot → Bool
outstanding s = within 1 s.sent 4 && leb s.ticks 5

abbrev pub idle : Slot → Bool
idle s = eqb s.sent 0 && eqb s.ticks 0

-- "only the first has been sent": the first if it is used, and no other slot, used or free
abbrev pub only_first : List Slot → Bool
only_first [] = true
only_first (s ∷ t) = cond (used s) (outstanding s) (idle s) && every idle t

-- "Slots are sound when there are eight, the used ones stand first and each holds a good one of the 14, and only the
-- first has been sent, one to four times, with 0 to 5 ticks counted."
unfoldable pub sound : List Slot → Bool
sound xs = eqb (length xs) 8 && used_first xs && every holds_one (waiting_in xs) && only_first xs

-- ---- what a call answers, and what it leaves

-- the ways of ending in the paper's numbers: 1 given up, else the message that ended it
abbrev pub way_number : Ended → ℕ
way_number GivenUp = 1
way_number Acknowledged = 0x1D
way_number Failed = 0x1C
way_number Rejected = 0x1F
way_number Replied = 0x12

-- 0: not ended
abbrev pub ended_number : Option Ended → ℕ
ended_number None = 0
ended_number (Some way) = way_number way

pub record Answer : Type 0 where
  pub number : ℕ
  pub ended : ℕ
  pub length : ℕ
  pub message : List ℕ

-- the number, how the front ended, and the message that goes out: [] for none
abbrev pub says : ℕ → ℕ → List ℕ → Answer
says number ended m = record { number = number; ended = ended; length = length m; message = padded m }

-- what the code answers, in the paper's numbers; a refusal says its number, and neither an end nor a message
abbrev pub answer_of : Result Sending Refusal → Answer
answer_of (Ok r) = record { number = 0; ended = ended_number r.ended; length = r.length; message = r.message }
answer_of (Err refusal) = says (refusal_number refusal) 0 []

abbrev pub quiet : Answer
quiet = says 0 0 []

pub record After : Type 0 where
  pub answer : Answer
  pub slots : List Slot

abbrev pub after : Answer → List Slot → After
after a xs = record { answer = a; slots = xs }

-- a refused call says its number alone, and leaves every slot
abbrev pub unless_refused : List (Bool × ℕ) → List Slot → After → After
unless_refused tests xs done = cond (eqb (first_of tests) 0) done (after (says (first_of tests) 0 []) xs)

-- ---- the front

-- a sending counts one more, and "each sending starts the count of six ticks afresh"
abbrev pub sent_once : Slot → Slot
sent_once s = record { length = s.length; sent = s.sent + 1; ticks = 0; message = s.message }

abbrev pub ticked_once : Slot → Slot
ticked_once s = record { length = s.length; sent = s.sent; ticks = s.ticks + 1; message = s.message }

-- "The front command goes out, as a message"; ended: how the one before it ended in this call
unfoldable pub goes_out : ℕ → List Slot → After
goes_out ended [] = after (says 0 ended []) []
goes_out ended (s ∷ t) =
    cond (used s) (after (says 0 ended (flagged (message_in s))) (sent_once s ∷ t)) (after (says 0 ended []) (s ∷ t))

-- the used ones behind the front move up by one, and the slot that the last of them leaves is all zero
abbrev pub moved_up : List Slot → List Slot
moved_up xs = drop 1 (waiting_in xs) ++ (blank ∷ those unused xs)

-- the front ends, and the next one goes out "when it becomes the front"
abbrev pub ended_by : ℕ → List Slot → After
ended_by ended xs = goes_out ended (moved_up xs)

-- "after four sendings the next 1Eh or sixth tick gives it up"
abbrev pub again : Slot → List Slot → After
again s xs = cond (leb 4 s.sent) (ended_by 1 xs) (goes_out 0 xs)

-- ---- the three calls

-- "22 slots not sound, first"
abbrev pub sound_tests : List Slot → List (Bool × ℕ)
sound_tests xs = (not (sound xs), 22) ∷ []

-- "13 not one of the 14, after 8; 14 all eight waiting, last"
abbrev pub take_tests : List ℕ → List Slot → List (Bool × ℕ)
take_tests m xs =
    sound_tests xs ++ message_tests m
    ++ ((not (one_of_them (number_of (byte 1 m))), 13) ∷ (eqb (waiting xs) 8, 14) ∷ [])

-- a command that has just been taken
abbrev pub slot_of : List ℕ → Slot
slot_of m = record { length = length m; sent = 0; ticks = 0; message = padded (flagged m) }

-- it stands in the first free slot
abbrev pub placed : List ℕ → List Slot → List Slot
placed m xs = waiting_in xs ++ (slot_of m ∷ drop 1 (those unused xs))

unfoldable pub take_of : List ℕ → List Slot → After
take_of m xs =
    unless_refused (take_tests m xs) xs
    (cond (eqb (waiting xs) 0) (goes_out 0 (placed m xs)) (after quiet (placed m xs)))

-- "again after each 6 ticks without an end"
abbrev pub ticking : List Slot → After
ticking [] = after quiet []
ticking (s ∷ t) =
    cond (used s) (cond (eqb (s.ticks + 1) 6) (again s (s ∷ t)) (after quiet (ticked_once s ∷ t))) (after quiet (s ∷ t))

unfoldable pub tick_of : List Slot → After
tick_of xs = unless_refused (sound_tests xs) xs (ticking xs)

-- "It ends by a good 1D, 1C or 1F, and 34h and 35h also by a good 12h."
unfoldable pub ends : ℕ → ℕ → Bool
ends front n = among n (0x1D ∷ 0x1C ∷ 0x1F ∷ []) || (eqb n 0x12 && among front (0x34 ∷ 0x35 ∷ []))

-- "at once on a good 1Eh". "Ends and 1Eh with nothing waiting, and all other messages, change nothing"
abbrev pub telling : ℕ → List Slot → After
telling n [] = after quiet []
telling n (s ∷ t) =
    cond (used s)
    (cond (ends (number_in s) n) (ended_by n (s ∷ t)) (cond (eqb n 0x1E) (again s (s ∷ t)) (after quiet (s ∷ t))))
    (after quiet (s ∷ t))

unfoldable pub told_of : List ℕ → List Slot → After
told_of m xs = unless_refused (sound_tests xs ++ message_tests m) xs (telling (number_of (byte 1 m)) xs)
