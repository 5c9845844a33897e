-- What a tick answers, by the tests that lead there. Assumes nothing.
use Prim.Native.Nat.{◌+◌, ◌<◌, ◌≤◌}
use native.Mathlib.Omega.{arith}
use mathlib.Core.Path.{◌≡◌, sym, ◌∙◌}
use mathlib.Core.Bool.{true, false}
use mathlib.Core.List.{List, [], ◌∷◌}
use lib.ListN.{length, get_or, set}
use borrow.Author.Tests.{eq-eqb, ne_eqb}
use Rattle.commands.specs.declared.Slot.{Slot}
use Rattle.commands.specs.Commands.{used, sound, says, quiet, After, after, ticked_once, again, ticking, tick_of}
use Rattle.commands.specs.Places.{front}
use Rattle.commands.proofs.Form.{sound_tests_lem}
use Rattle.commands.proofs.Held.{sound_front}
use Rattle.commands.proofs.Refusing.{tick_unsound, tick_runs}

none : (xs : List Slot) (d : Slot) → 1 ≤ length xs → used (get_or xs 0 d) ≡ false → after quiet xs ≡ ticking xs
none [] d n e = absurd (omega (arith, n))
none (s ∷ t) d n e = rw e

more : (xs : List Slot) (d : Slot) → 1 ≤ length xs → used (get_or xs 0 d) ≡ true → (get_or xs 0 d).ticks < 5
    → after quiet (set xs 0 (ticked_once (get_or xs 0 d))) ≡ ticking xs
more [] d n e k = absurd (omega (arith, n))
more (s ∷ t) d n e k = rw (e, ne_eqb (s.ticks + 1) 6 (λ z. omega (arith, k, z)))

last : (xs : List Slot) (d : Slot) → sound xs ≡ true → used (get_or xs 0 d) ≡ true → 5 ≤ (get_or xs 0 d).ticks
    → again (front xs) xs ≡ ticking xs
last [] d h e k = absurd (omega (arith, (sound_tests_lem [] h).eight))
last (s ∷ t) d h e k = rw (e, eq-eqb (s.ticks + 1) 6 (omega (arith, k, (sound_front (s ∷ t) e h).early)))

module _ (xs : List Slot) (a : After) where
  pub refuses : sound xs ≡ false → a ≡ after (says 22 0 []) xs → a ≡ tick_of xs
  refuses h e = e ∙ sym (tick_unsound xs h)

  module _ (d : Slot) (h : sound xs ≡ true) where
    pub idles : used (get_or xs 0 d) ≡ false → a ≡ after quiet xs → a ≡ tick_of xs
    idles u e = e ∙ none xs d (omega (arith, (sound_tests_lem xs h).eight)) u ∙ sym (tick_runs xs h)

    pub repeats : used (get_or xs 0 d) ≡ true → 5 ≤ (get_or xs 0 d).ticks → a ≡ again (front xs) xs → a ≡ tick_of xs
    repeats u k e = e ∙ last xs d h u k ∙ sym (tick_runs xs h)

    pub counts : used (get_or xs 0 d) ≡ true → (get_or xs 0 d).ticks < 5
        → a ≡ after quiet (set xs 0 (ticked_once (get_or xs 0 d))) → a ≡ tick_of xs
    counts u k e = e ∙ more xs d (omega (arith, (sound_tests_lem xs h).eight)) u k ∙ sym (tick_runs xs h)
