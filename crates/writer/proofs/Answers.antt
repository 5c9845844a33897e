-- The definition of the writer's answer, case by case, as `write` comes to it. Assumes nothing.
use Prim.Native.Nat.{ℕ}
use mathlib.Core.Path.{◌≡◌, ◌∙◌}
use mathlib.Core.Bool.{cond}
use mathlib.Core.List.{List, [], ◌∷◌}
use lib.Dec.{eqb}
use lib.ListN.{length}
use borrow.Author.Tests.{eq-eqb, ne_eqb}
use Rattle.standard.specs.declared.Framing.{Framing}
use Rattle.standard.specs.Words.{laid}
use Rattle.standard.specs.Messages.{check_of}
use Rattle.standard.specs.Framing.{frame_of}
use Rattle.standard.specs.Writer.{no_room, write_refusal, written_of, after_write, Wrote}
use Rattle.standard.proofs.Messages.{check_then}
use Rattle.writer.specs.Refusing.{refusing, room_refusal}

module _ (m : List ℕ) (f : Framing) (out : List ℕ) (place : ℕ) where
  -- the message's own refusals come first, then the room
  in_order : write_refusal m f out place
      ≡ cond (eqb (check_of m) 0) (room_refusal (length (frame_of f m)) place (length out)) (check_of m)
  unfolding write_refusal
  in_order = check_then m ((no_room (length (frame_of f m)) place (length out), 9) ∷ [])

  pub first_refusal : (check_of m ≡ 0 → ⊥) → write_refusal m f out place ≡ check_of m
  first_refusal h = in_order ∙ rw (ne_eqb (check_of m) 0 h)

  pub last_refusal : check_of m ≡ 0 → write_refusal m f out place ≡ room_refusal (length (frame_of f m)) place (length out)
  last_refusal h = in_order ∙ rw (eq-eqb (check_of m) 0 h)

  -- a refusal says length 0 and stores nothing
  pub told_refused : (n : ℕ) → write_refusal m f out place ≡ n → (n ≡ 0 → ⊥) → Wrote m f out place (refusing n) out
  unfolding written_of after_write
  told_refused n e h = record { says = rw (e, ne_eqb n 0 h); leaves = rw (e, ne_eqb n 0 h) }

  -- the frame is laid over the buffer, and its length said
  pub told_written : (n : ℕ) (after : List ℕ) → write_refusal m f out place ≡ 0 → n ≡ length (frame_of f m)
      → after ≡ laid out place (frame_of f m) → Wrote m f out place (record { number = 0; length = n }) after
  unfolding written_of after_write
  told_written n after e k l = record { says = rw (e, k); leaves = rw e l }
