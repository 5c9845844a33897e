-- When a call is refused, and what is known where it is not. Assumes nothing.
use Prim.Native.Nat.{ℕ}
use native.Mathlib.Omega.{arith}
use mathlib.Core.Path.{◌≡◌, refl, sym, ap, ◌∙◌}
use mathlib.Core.Bool.{Bool, true, false, cond, not}
use mathlib.Core.List.{List, [], ◌∷◌, ◌++◌}
use lib.Dec.{eqb}
use lib.ListN.{length}
use borrow.Author.Tests.{eq-eqb, ne_eqb, eqb-true, eqb-false}
use Rattle.standard.specs.Words.{byte, first_of}
use Rattle.standard.specs.Messages.{number_of, length_for, length_ok, values_ok, message_tests, check_of}
use Rattle.standard.proofs.Messages.{check_then, check_after}
use Rattle.commands.specs.declared.Slot.{Slot}
use Rattle.commands.specs.Commands.{
  one_of_them,
  waiting,
  sound,
  says,
  After,
  after,
  unless_refused,
  sound_tests,
  take_tests,
  ticking,
  telling,
  quiet,
  goes_out,
  placed,
  take_of,
  tick_of,
  told_of,
}

-- ---- a call by its tests

module _ (tests : List (Bool × ℕ)) (xs : List Slot) (done : After) where
  pub call_refused : (first_of tests ≡ 0 → ⊥) → unless_refused tests xs done ≡ after (says (first_of tests) 0 []) xs
  call_refused h = rw (ne_eqb (first_of tests) 0 h)

  pub call_done : first_of tests ≡ 0 → unless_refused tests xs done ≡ done
  call_done h = rw (eq-eqb (first_of tests) 0 h)

-- ---- 22

module _ (xs : List Slot) (e : sound xs ≡ false) where
  pub take_unsound : (m : List ℕ) → take_of m xs ≡ after (says 22 0 []) xs
  unfolding take_of
  take_unsound m = rw e

  pub tick_unsound : tick_of xs ≡ after (says 22 0 []) xs
  unfolding tick_of
  tick_unsound = rw e

  pub told_unsound : (m : List ℕ) → told_of m xs ≡ after (says 22 0 []) xs
  unfolding told_of
  told_unsound m = rw e

-- ---- the other refusals

-- no message has the number of slots that are not sound
pub check_other : (m : List ℕ) → check_of m ≡ 22 → ⊥
unfolding check_of
check_other m h =
    go (not (length_ok (length m))) (not (not (eqb (length_for (byte 1 m)) 0)))
    (not (eqb (length m) (length_for (byte 1 m))))
    (not (values_ok (number_of (byte 1 m)) m)) h
  where
    go : (a b c d : Bool) → first_of ((a, 4) ∷ (b, 6) ∷ (c, 7) ∷ (d, 8) ∷ []) ≡ 22 → ⊥
    go true b c d h = omega arith
    go false true c d h = omega arith
    go false false true d h = omega arith
    go false false false true h = omega arith
    go false false false false h = omega arith

-- what is asked of a command after it is good
abbrev later : List ℕ → List Slot → List (Bool × ℕ)
later m xs = (not (one_of_them (number_of (byte 1 m))), 13) ∷ (eqb (waiting xs) 8, 14) ∷ []

module _ (m : List ℕ) (xs : List Slot) where
  pub told_tests : sound xs ≡ true → first_of ((not (sound xs), 22) ∷ message_tests m) ≡ check_of m
  told_tests e = check_after (not (sound xs)) 22 m ∙ rw e

  take_tests_lem : first_of (take_tests m xs)
      ≡ cond (not (sound xs)) 22 (cond (eqb (check_of m) 0) (first_of (later m xs)) (check_of m))
  take_tests_lem = ap (cond (not (sound xs)) 22) (check_then m (later m xs))

  -- slots that are not sound are refused first
  pub take_22 : sound xs ≡ false → first_of (take_tests m xs) ≡ 22
  take_22 e = take_tests_lem ∙ rw e

  module _ (e : sound xs ≡ true) where
    pub take_check : (check_of m ≡ 0 → ⊥) → first_of (take_tests m xs) ≡ check_of m
    take_check n = take_tests_lem ∙ rw (e, ne_eqb (check_of m) 0 n)

    module _ (g : check_of m ≡ 0) where
      pub take_13 : one_of_them (number_of (byte 1 m)) ≡ false → first_of (take_tests m xs) ≡ 13
      take_13 o = take_tests_lem ∙ rw (e, eq-eqb (check_of m) 0 g, o)

      pub take_last : one_of_them (number_of (byte 1 m)) ≡ true → first_of (take_tests m xs) ≡ cond (eqb (waiting xs) 8) 14 0
      take_last o = take_tests_lem ∙ rw (e, eq-eqb (check_of m) 0 g, o)

-- no number of these is that of slots that are not sound
other_by : (m : List ℕ) (c o f : Bool) → cond c (cond (not o) 13 (cond f 14 0)) (check_of m) ≡ 22 → ⊥
other_by m false o f h = check_other m h
other_by m true false f h = omega (arith, h)
other_by m true true true h = omega (arith, h)
other_by m true true false h = omega (arith, h)

pub take_other : (m : List ℕ) (xs : List Slot) → sound xs ≡ true → first_of (take_tests m xs) ≡ 22 → ⊥
take_other m xs e h =
    let by : first_of (take_tests m xs) ≡ cond (eqb (check_of m) 0) (first_of (later m xs)) (check_of m) =
    take_tests_lem m xs ∙ rw e in
    other_by m (eqb (check_of m) 0) (one_of_them (number_of (byte 1 m))) (eqb (waiting xs) 8) (sym by ∙ h)

-- a command that is not refused
pub record Taken (m : List ℕ) (xs : List Slot) : Type 0 where
  pub sound : sound xs ≡ true
  pub good : check_of m ≡ 0
  pub one : one_of_them (number_of (byte 1 m)) ≡ true
  pub room : eqb (waiting xs) 8 ≡ false

by_tests : (m : List ℕ) (xs : List Slot) (s c o f : Bool) → sound xs ≡ s → eqb (check_of m) 0 ≡ c
    → one_of_them (number_of (byte 1 m)) ≡ o → eqb (waiting xs) 8 ≡ f
    → cond (not s) 22 (cond c (cond (not o) 13 (cond f 14 0)) (check_of m)) ≡ 0 → Taken m xs
by_tests m xs false c o f hs hc ho hf h = absurd (omega (arith, h))
by_tests m xs true false o f hs hc ho hf h = absurd (eqb-false (check_of m) 0 hc h)
by_tests m xs true true false f hs hc ho hf h = absurd (omega (arith, h))
by_tests m xs true true true true hs hc ho hf h = absurd (omega (arith, h))
by_tests m xs true true true false hs hc ho hf h =
    record { sound = hs; good = eqb-true (check_of m) 0 hc; one = ho; room = hf }

pub taken : (m : List ℕ) (xs : List Slot) → first_of (take_tests m xs) ≡ 0 → Taken m xs
taken m xs h =
    by_tests m xs (sound xs) (eqb (check_of m) 0) (one_of_them (number_of (byte 1 m))) (eqb (waiting xs) 8)
    refl refl refl refl (sym (take_tests_lem m xs) ∙ h)

-- ---- what each call does where it is not refused

module _ (xs : List Slot) (e : sound xs ≡ true) where
  pub tick_runs : tick_of xs ≡ ticking xs
  unfolding tick_of
  tick_runs = rw e

  module _ (m : List ℕ) where
    pub told_refused : (check_of m ≡ 0 → ⊥) → told_of m xs ≡ after (says (check_of m) 0 []) xs
    unfolding told_of
    told_refused n =
        call_refused (sound_tests xs ++ message_tests m) xs _ (λ z. n (sym (told_tests m xs e) ∙ z))
        ∙ ap (λ n. after (says n 0 []) xs) (told_tests m xs e)

    pub told_runs : check_of m ≡ 0 → told_of m xs ≡ telling (number_of (byte 1 m)) xs
    unfolding told_of
    told_runs g = call_done (sound_tests xs ++ message_tests m) xs _ (told_tests m xs e ∙ g)

module _ (m : List ℕ) (xs : List Slot) where
  pub take_refused : (first_of (take_tests m xs) ≡ 0 → ⊥) → take_of m xs ≡ after (says (first_of (take_tests m xs)) 0 []) xs
  unfolding take_of
  take_refused n = call_refused (take_tests m xs) xs _ n

  pub take_runs : first_of (take_tests m xs) ≡ 0
      → take_of m xs ≡ cond (eqb (waiting xs) 0) (goes_out 0 (placed m xs)) (after quiet (placed m xs))
  unfolding take_of
  take_runs g = call_done (take_tests m xs) xs _ g
