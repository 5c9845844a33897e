-- What is known of the first slots of a sound line where the code reads them. Assumes nothing.
use Prim.Native.Nat.{ℕ, ◌<◌, ◌≤◌}
use borrow.Author.Tests.{eqb-false}
use native.Mathlib.Omega.{arith}
use mathlib.Core.Path.{◌≡◌, refl, sym, ap, ◌∙◌}
use mathlib.Core.Bool.{true, false}
use mathlib.Core.List.{List, [], ◌∷◌, ◌++◌}
use lib.ListN.{length, get_or, set}
use Rattle.std.proofs.lemmas.List.{nil_from_length}
use Rattle.standard.specs.Words.{first_of}
use Rattle.commands.specs.declared.Slot.{Slot}
use Rattle.commands.specs.Commands.{longest_command, flagged, padded, message_in, used, unused, blank, those, waiting_in, waiting, sound, Answer, says, after, quiet, sent_once, goes_out, moved_up, telling, take_tests, placed}
use Rattle.commands.specs.Places.{front}
use Rattle.commands.specs.Runs.{Each}
use Rattle.commands.proofs.Flag.{holds, flagged_length, few_bytes}
use Rattle.commands.proofs.Refusing.{taken}
use Rattle.commands.proofs.Form.{Front, Behind, Waits, sound_waits, sound_tests_lem}
use Rattle.commands.proofs.Slotwise.{waits_most}

-- the first of some slots goes out, if it is used
pub goes_unused : (e : ℕ) (xs : List Slot) (d : Slot) → 1 ≤ length xs → used (get_or xs 0 d) ≡ false
    → after (says 0 e []) xs ≡ goes_out e xs
unfolding goes_out
goes_unused e [] d h u = absurd (omega (arith, h))
goes_unused e (s ∷ t) d h u = rw u

pub goes_used : (e : ℕ) (xs : List Slot) (d : Slot) → 1 ≤ length xs → (out : List ℕ) → used (get_or xs 0 d) ≡ true
    → length (message_in (get_or xs 0 d)) ≡ (get_or xs 0 d).length
    → out ≡ padded (flagged (message_in (get_or xs 0 d)))
    → after (record { number = 0; ended = e; length = (get_or xs 0 d).length; message = out })
    (set xs 0 (sent_once (get_or xs 0 d)))
    ≡ goes_out e xs
unfolding goes_out
goes_used e [] d h out u n m = absurd (omega (arith, h))
goes_used e (s ∷ t) d h out u n m =
    let long = sym (flagged_length (message_in s) ∙ n) in
    let answer : ℕ → List ℕ → Answer = λ k o. record { number = 0; ended = e; length = k; message = o } in
    rw u (λ j. after (answer (long j) (m j)) (sent_once s ∷ t))

-- a message that is heard, by the first slot
pub tells_none : (n : ℕ) (xs : List Slot) (d : Slot) → 1 ≤ length xs → used (get_or xs 0 d) ≡ false
    → after quiet xs ≡ telling n xs
tells_none n [] d h e = refl
tells_none n (s ∷ t) d h e = rw e

-- what a front must have to go out
pub record Ready (s : Slot) : Type 0 where
  pub sent : s.sent ≤ 4
  pub few : s.length ≤ longest_command

used_waits : (xs : List Slot) → used (front xs) ≡ true → length xs ≡ 8 → (t : List Slot) × (waiting_in xs ≡ front xs ∷ t)
unfolding those
used_waits [] e n = absurd (omega (arith, n))
used_waits (s ∷ t) e n = (waiting_in t, rw e)

-- the front of sound slots, where it is used
module _ (xs : List Slot) (e : used (front xs) ≡ true) (h : sound xs ≡ true) where
  pub front_waits : (t : List Slot) × (waiting_in xs ≡ front xs ∷ t)
  front_waits = used_waits xs e (sound_tests_lem xs h).eight

  pub some_wait : 1 ≤ waiting xs
  some_wait = omega (arith, ap length front_waits.1)

  waits : Waits (front xs ∷ front_waits.0)
  waits = rw front_waits.1 at (sound_waits xs h)

  pub sound_front : Front (front xs)
  sound_front = waits.0

  pub front_few : (front xs).length ≤ longest_command
  front_few = (holds (front xs) waits.0.holds).few

  -- and what the next front must have to go out
  pub next_ready : Ready (front (moved_up xs))
  next_ready = rw front_waits.1 (go front_waits.0 (those unused xs) waits.1)
    where
      go : (t fs : List Slot) → Each Behind t → Ready (front (t ++ (blank ∷ fs)))
      go [] fs b = record { sent = omega arith; few = omega arith }
      go (u ∷ t) fs b =
          let none = b.0.unsent in record { sent = omega (arith, none); few = (holds u b.0.holds).few }

-- the front has counted five ticks at most
pub front_early : (xs : List Slot) → unused (front xs) ≡ false → sound xs ≡ true → (front xs).ticks ≤ 5
front_early xs e h = (sound_front xs (rw e) h).early

-- a command that is not refused has room
pub has_room : (m : List ℕ) (xs : List Slot) → first_of (take_tests m xs) ≡ 0 → waiting xs < 8
has_room m xs h =
    let ok = taken m xs h in
    let eight = (sound_tests_lem xs ok.sound).eight in
    omega (arith, eight, waits_most xs, eqb-false (waiting xs) 8 ok.room)

-- and goes out where none waits
pub first_placed : (m : List ℕ) (xs : List Slot) → first_of (take_tests m xs) ≡ 0 → waiting xs ≡ 0
    → (front (placed m xs)).length ≤ longest_command
first_placed m xs h e =
    let ok = taken m xs h in
    rw (nil_from_length (waiting_in xs) e) (few_bytes m ok.good ok.one)
