-- Document 01, "Verdicts and refusals": what the writer answers, and the buffer afterwards. Assumes nothing.
use Rattle.std.specs.Prelude.{ℕ, ◌-◌, ◌≡◌, Bool, cond, ◌||◌, List, [], ◌∷◌, ◌++◌, eqb, ltb, length}
use Rattle.standard.specs.declared.Framing.{Framing}
use Rattle.standard.specs.Refusals.{Written}
use Rattle.standard.specs.Words.{first_of, laid}
use Rattle.standard.specs.Messages.{message_tests}
use Rattle.standard.specs.Framing.{frame_of}

-- "the frame does not fit from its place to the end of the buffer, or the place is beyond the end"
abbrev pub no_room : ℕ → ℕ → ℕ → Bool
no_room frame place size = ltb (size - place) frame || ltb size place

-- "Order: 4 (empty message or over" 255 "), 6, 7, 8," 9 (document 02, No. 2 and No. 4)
abbrev pub write_tests : List ℕ → Framing → List ℕ → ℕ → List (Bool × ℕ)
write_tests m f out place = message_tests m ++ ((no_room (length (frame_of f m)) place (length out), 9) ∷ [])

unfoldable pub write_refusal : List ℕ → Framing → List ℕ → ℕ → ℕ
write_refusal m f out place = first_of (write_tests m f out place)

-- "says its length"; "a refusal says length 0"
unfoldable pub written_of : List ℕ → Framing → List ℕ → ℕ → Written
written_of m f out place = record {
  number = write_refusal m f out place;
  length = cond (eqb (write_refusal m f out place) 0) (length (frame_of f m)) 0;
}

-- "puts the frame into the part of the out buffer that starts at that place"; "other bytes stay"
unfoldable pub after_write : List ℕ → Framing → List ℕ → ℕ → List ℕ
after_write m f out place = cond (eqb (write_refusal m f out place) 0) (laid out place (frame_of f m)) out

-- what `write` promises: its answer, and every byte of the buffer
pub record Wrote (m : List ℕ) (f : Framing) (out : List ℕ) (place : ℕ) (answer : Written) (after : List ℕ)
    : Type 0 where
  pub says : answer ≡ written_of m f out place
  pub leaves : after ≡ after_write m f out place
