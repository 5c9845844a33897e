-- Runs of calls, for what document 02, No. 1, says of them: "A command with k ahead of it has ended after at most
-- 24 × (k + 1) ticks", and "commands taken, counted from the calls, always equal those ended in each way plus those
-- waiting". Assumes nothing.
use Rattle.std.specs.Prelude.{ℕ, zero, suc, ◌+◌, ◌-◌, ◌*◌, ◌<◌, ◌≤◌, ◌≡◌, Bool, true, false, cond, List, [], ◌∷◌, ◌++◌, map, eqb, length, get_or, drop, replicate}
use Rattle.std.proofs.Math.Option.{Option, none, some}
use Rattle.commands.specs.declared.Slot.{Slot}
use Rattle.commands.specs.Commands.{Answer, After, blank, flagged, message_in, waiting_in, waiting, take_of, tick_of}
use Rattle.commands.specs.Commands.{told_of}

pub data Call : Type 0 where
  take : List ℕ → Call
  tick : Call
  told : List ℕ → Call

unfoldable pub called : Call → List Slot → After
called (take m) xs = take_of m xs
called tick xs = tick_of xs
called (told m) xs = told_of m xs

-- "From empty slots on"
abbrev pub empty : List Slot
empty = replicate 8 blank

-- a run from some slots on: the answers of its calls, and the slots after it
unfoldable pub answers : List Call → List Slot → List Answer
answers [] xs = []
answers (c ∷ cs) xs = (called c xs).answer ∷ answers cs (called c xs).slots

unfoldable pub slots_after : List Call → List Slot → List Slot
slots_after [] xs = xs
slots_after (c ∷ cs) xs = slots_after cs (called c xs).slots

-- ---- counted from the calls and their answers

unfoldable pub is_tick : Call → Bool
is_tick (take m) = false
is_tick tick = true
is_tick (told m) = false

abbrev pub ticks_by : Call → ℕ
ticks_by c = cond (is_tick c) 1 0

unfoldable pub ticks_in : List Call → ℕ
ticks_in [] = 0
ticks_in (c ∷ cs) = ticks_by c + ticks_in cs

-- the commands taken by one call, as they go out
unfoldable pub taken_by : Call → Answer → List (List ℕ)
taken_by (take m) a = cond (eqb a.number 0) (flagged m ∷ []) []
taken_by tick a = []
taken_by (told m) a = []

-- the commands taken in a run, in their order
unfoldable pub taken_in : List Call → List Answer → List (List ℕ)
taken_in [] said = []
taken_in (c ∷ cs) [] = []
taken_in (c ∷ cs) (a ∷ said) = taken_by c a ++ taken_in cs said

-- how many answers say that the front ended in the way of that number
unfoldable pub ended_in : ℕ → List Answer → ℕ
ended_in e [] = 0
ended_in e (a ∷ said) = cond (eqb a.ended e) 1 0 + ended_in e said

-- how many say that it ended, in whatever way
abbrev pub ends_by : Answer → ℕ
ends_by a = cond (eqb a.ended 0) 0 1

unfoldable pub ends_in : List Answer → ℕ
ends_in [] = 0
ends_in (a ∷ said) = ends_by a + ends_in said

-- the commands that wait, as they go out, oldest first
abbrev pub line : List Slot → List (List ℕ)
line xs = map (λ (s : Slot). flagged (message_in s)) (waiting_in xs)

-- what is left of some commands, less the first n, of which there are so many
pub record Less (n : ℕ) (all left : List (List ℕ)) : Type 0 where
  pub rest : left ≡ drop n all
  pub enough : n ≤ length all

-- ---- of every answer, and of every slot

abbrev pub Each : {A : Type 0} → (A → Type 0) → List A → Type 0
Each P [] = Unit
Each P (x ∷ l) = P x × Each P l

-- slots that are "left all zero"
abbrev pub Blank : List Slot → Type 0
Blank xs = Each (λ (s : Slot). s ≡ blank) xs

-- ---- one command, followed by its place: how many stand ahead of it

-- it falls by one at each end; none: it was the front, and has ended
unfoldable pub lower : ℕ → Option ℕ
lower zero = none
lower (suc k) = some k

unfoldable pub moved : Answer → Option ℕ → Option ℕ
moved a none = none
moved a (some k) = cond (eqb a.ended 0) (some k) (lower k)

-- its place after some answers
unfoldable pub place_after : List Answer → Option ℕ → Option ℕ
place_after [] p = p
place_after (a ∷ said) p = place_after said (moved a p)

-- whether it went out in a call, by the call's answer and its place after it: only the front goes out
unfoldable pub went_out : Answer → Option ℕ → ℕ
went_out a none = 0
went_out a (some zero) = cond (eqb a.length 0) 0 1
went_out a (some (suc k)) = 0

-- how often it goes out in a run
unfoldable pub sendings : List Answer → Option ℕ → ℕ
sendings [] p = 0
sendings (a ∷ said) p = went_out a (moved a p) + sendings said (moved a p)

-- how often the commands that wait have gone out before it, by their slots
abbrev pub sent_in : List Slot → List ℕ
sent_in ws = map (λ (s : Slot). s.sent) ws

-- a command with k of some before it: after n ends it waits with j ahead of it
pub record Followed (before : List (List ℕ)) (n : ℕ) (after : List Slot) (k j : ℕ) : Type 0 where
  pub ahead : j + n ≡ k
  pub waits : j < waiting after
  pub same : get_or (line after) j [] ≡ get_or before k []

-- ---- the ticks that it can still wait

-- the front: six for each sending left to it, and what is left of the six since its last
abbrev pub front_left : List Slot → ℕ
front_left [] = 0
front_left (s ∷ t) = 6 * (4 - s.sent) + (6 - s.ticks)

-- a command with k ahead of it
abbrev pub left : List Slot → ℕ → ℕ
left ws k = 24 * k + front_left ws
