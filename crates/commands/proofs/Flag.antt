-- The flag: a message with it is as good as without, of the same number and length, and a good one of the 14 fits its
-- slot. Assumes nothing.
use Prim.Native.Nat.{ℕ, zero, suc, ◌+◌, ◌-◌, ◌%◌, ◌<◌, ◌≤◌}
use native.Mathlib.Omega.{arith}
use mathlib.Core.Path.{◌≡◌, refl, ap, ◌∙◌}
use mathlib.Core.Bool.{Bool, true, false, ◌&&◌, ◌||◌}
use mathlib.Core.List.{List, [], ◌∷◌, ◌++◌}
use lib.Dec.{eqb, leb}
use lib.ListN.{length, get_or, set, drop, replicate}
use lib.Seq.{take_at}
use borrow.Author.Tests.{eqb-true, leb-true, eq-eqb, le-leb}
use Rattle.std.proofs.Common.{bit_or}
use Rattle.standard.specs.Words.{byte, bit}
use Rattle.standard.specs.Messages.{known, length_in, number_of, flag_of, length_for, among, values_ok, check_of}
use Rattle.standard.proofs.Tables.{alike}
use Rattle.standard.proofs.Messages.{passed, passed_number, both_true}
use Rattle.commands.specs.declared.Slot.{Slot}
use Rattle.commands.specs.Commands.{
  fourteen,
  one_of_them,
  longest_command,
  flagged,
  padded,
  message_in,
  number_in,
  holds_one,
  slot_of,
}

-- the length stays
pub flagged_length : (m : List ℕ) → length (flagged m) ≡ length m
unfolding flagged
flagged_length [] = refl
flagged_length (t ∷ m) = refl

-- the flag is set in the first byte, and zeros stand beyond the message as before
pub flag_first : (m : List ℕ) → 1 ≤ length m
    → set (padded m) 0 (128 + get_or (padded m) 0 0 % 128) ≡ padded (flagged m)
unfolding flagged
flag_first [] h = absurd (omega (arith, h))
flag_first (t ∷ m) h = refl

-- and so it is as the code sets it, by its bit
set_bit : (t : ℕ) → t < 256 → bit_or t 128 ≡ 128 + t % 128
set_bit t h = eqb-true _ _ (alike (λ (n : ℕ). eqb (bit_or n 128) (128 + n % 128)) (λ (n : ℕ). true) 256 tt t h)

pub flag_bit : (m : List ℕ) → 1 ≤ length m → byte 1 m < 256
    → set (padded m) 0 (bit_or (get_or (padded m) 0 0) 128) ≡ padded (flagged m)
unfolding flagged
flag_bit [] h b = absurd (omega (arith, h))
flag_bit (t ∷ m) h b = ap (λ (n : ℕ). set (padded (t ∷ m)) 0 n) (set_bit t b)

-- beyond a message in its array stand zeros
drop_zeros : (n k : ℕ) → drop n (replicate {A = ℕ} k 0) ≡ replicate (k - n) 0
drop_zeros zero k = let e : k ≡ k - 0 = omega arith in ap (λ i. replicate {A = ℕ} i 0) e
drop_zeros (suc n) zero = let e : 0 ≡ 0 - suc n = omega arith in ap (λ i. replicate {A = ℕ} i 0) e
drop_zeros (suc n) (suc k) =
    let e : k - n ≡ suc k - suc n = omega arith in drop_zeros n k ∙ ap (λ i. replicate {A = ℕ} i 0) e

pub padded_zeros : (m : List ℕ) → padded m ≡ m ++ replicate (longest_command - length m) 0
padded_zeros m =
    let e : 0 + length m ≡ length m = omega arith in
    ap (λ n. m ++ drop n (replicate {A = ℕ} longest_command 0)) e ∙ ap (◌++◌ m) (drop_zeros (length m) longest_command)

-- a flag that is set again changes nothing
pub flagged_twice : (m : List ℕ) → flagged (flagged m) ≡ flagged m
unfolding flagged
flagged_twice [] = refl
flagged_twice (t ∷ m) =
    let e : 128 + (128 + t % 128) % 128 ≡ 128 + t % 128 = omega arith in
    ap (λ b. b ∷ m) e

-- the flag is set
pub flagged_flag : (m : List ℕ) → 1 ≤ length m → flag_of (byte 1 (flagged m)) ≡ true
unfolding flagged
flagged_flag [] h = absurd (omega (arith, h))
flagged_flag (t ∷ m) h = eq-eqb (bit 7 (128 + t % 128)) 1 (omega arith)

-- the number stays
pub flagged_number : (m : List ℕ) → number_of (byte 1 (flagged m)) ≡ number_of (byte 1 m)
unfolding flagged
flagged_number [] = refl
flagged_number (t ∷ m) = omega arith

flagged_asks : (t : ℕ) → length_for (128 + t % 128) ≡ length_for t
unfolding length_for
flagged_asks t =
    let six : bit 6 (128 + t % 128) ≡ bit 6 t = omega arith in
    let number : number_of (128 + t % 128) ≡ number_of t = omega arith in
    rw (six, number)

-- the checks pass the flag by
pub flagged_check : (m : List ℕ) → check_of (flagged m) ≡ check_of m
unfolding flagged check_of values_ok
flagged_check [] = refl
flagged_check (t ∷ m) =
    let number : number_of (128 + t % 128) ≡ number_of t = omega arith in
    rw (flagged_asks t, number)

-- a test that each of some numbers passes
abbrev pub all_pass : (ℕ → Bool) → List ℕ → Bool
all_pass f [] = true
all_pass f (k ∷ ks) = f k && all_pass f ks

-- so one of them does
pub among_passes : (f : ℕ → Bool) (ks : List ℕ) (n : ℕ) → all_pass f ks ≡ true → among n ks ≡ true → f n ≡ true
among_passes f [] n h a = let z : ◌≡◌ {A = ℕ} 0 1 = cc in absurd (omega arith)
among_passes f (k ∷ ks) n h a =
    let x = both_true (f k) (all_pass f ks) h in
    go (eqb n k) refl a x.0 (λ b. among_passes f ks n x.1 b)
  where
    go : (t : Bool) → eqb n k ≡ t → (t || among n ks) ≡ true → f k ≡ true → (among n ks ≡ true → f n ≡ true)
        → f n ≡ true
    go true e a p r = ap f (eqb-true n k e) ∙ p
    go false e a p r = r a

-- a good one of the 14 is no longer than a slot's array
pub few_bytes : (m : List ℕ) → check_of m ≡ 0 → one_of_them (number_of (byte 1 m)) ≡ true → length m ≤ longest_command
unfolding one_of_them
few_bytes m h o =
    let n = number_of (byte 1 m) in
    let e : length m ≡ length_in known n = passed_number m n (passed m h) refl in
    let few = among_passes (λ k. leb (length_in known k) longest_command) fourteen n refl o in
    leb-true (length m) longest_command (rw e few)

-- what a slot holds that a command has just been put into
pub slot_message : (m : List ℕ) → message_in (slot_of m) ≡ flagged m
slot_message m =
    take_at (flagged m) (drop (0 + length (flagged m)) (replicate longest_command 0)) (length m) (flagged_length m)

-- it holds a good one of the 14, if that was one
pub slot_holds : (m : List ℕ) → check_of m ≡ 0 → one_of_them (number_of (byte 1 m)) ≡ true → holds_one (slot_of m) ≡ true
unfolding holds_one
slot_holds m h o =
    let good : check_of (flagged m) ≡ 0 = flagged_check m ∙ h in
    rw (
      le-leb (length m) longest_command (few_bytes m h o),
      slot_message m,
      eq-eqb (check_of (flagged m)) 0 good,
      flagged_number m,
    ) o

-- a good message has a byte or more
pub good_length : (m : List ℕ) → check_of m ≡ 0 → 1 ≤ length m
good_length m h = (passed m h).sized.some

-- what a slot holds
pub record Holds (s : Slot) : Type 0 where
  pub few : s.length ≤ longest_command
  pub good : check_of (message_in s) ≡ 0
  pub one : one_of_them (number_in s) ≡ true

pub holds : (s : Slot) → holds_one s ≡ true → Holds s
unfolding holds_one
holds s h =
    let two = both_true (leb s.length longest_command && eqb (check_of (message_in s)) 0) (one_of_them (number_in s)) h in
    let one = both_true (leb s.length longest_command) (eqb (check_of (message_in s)) 0) two.0 in
    record { few = leb-true _ _ one.0; good = eqb-true _ _ one.1; one = two.1 }

-- so it is not nothing, nor is what goes out
pub held_length : (s : Slot) → holds_one s ≡ true → 1 ≤ length (flagged (message_in s))
held_length s h = rw flagged_length (good_length (message_in s) (holds s h).good)
