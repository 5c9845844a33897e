-- Slots that are not eight are refused with 22, and left. Assumes nothing.
use Prim.Native.Nat.{ℕ}
use mathlib.Core.Path.{◌≡◌}
use mathlib.Core.Bool.{false}
use mathlib.Core.List.{List, []}
use lib.ListN.{length}
use borrow.Author.Tests.{ne_eqb}
use Rattle.commands.specs.declared.Slot.{Slot}
use Rattle.commands.specs.Commands.{sound, says, after, take_of, tick_of, told_of}
use Rattle.commands.proofs.Refusing.{take_unsound, tick_unsound, told_unsound}

module _ (xs : List Slot) (h : length xs ≡ 8 → ⊥) where
  unsound : sound xs ≡ false
  unfolding sound
  unsound = rw (ne_eqb (length xs) 8 h)

  pub take_not_eight : (m : List ℕ) → take_of m xs ≡ after (says 22 0 []) xs
  take_not_eight = take_unsound xs unsound

  pub tick_not_eight : tick_of xs ≡ after (says 22 0 []) xs
  tick_not_eight = tick_unsound xs unsound

  pub told_not_eight : (m : List ℕ) → told_of m xs ≡ after (says 22 0 []) xs
  told_not_eight = told_unsound xs unsound
