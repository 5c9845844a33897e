-- By the old rule the condition of the second round trip is needed, of every part: one with a needless escape is never
-- what is written. And there are such parts: card 1 with its 1Dh sent as 7D 3D is read as that message at its last
-- byte, and is 15 by the strict rule. Assumes nothing.
use Prim.Native.Nat.{ℕ}
use native.Mathlib.Omega.{arith}
use mathlib.Core.Path.{◌≡◌, refl}
use mathlib.Core.Bool.{Bool, true, false, ◌&&◌}
use mathlib.Core.List.{List, [], ◌∷◌, ◌++◌}
use lib.Dec.{ltb}
use borrow.Author.Tests.{ltb-true}
use Rattle.standard.specs.declared.Framing.{Framing}
use Rattle.standard.specs.declared.Framing.TheVariants.{Binary}
use Rattle.standard.specs.declared.Escapes.TheVariants.{Strict, Lenient}
use Rattle.standard.specs.Words.{total}
use Rattle.standard.specs.Sums.{prefixes, sums_of}
use Rattle.standard.specs.Messages.{length_for, values_ok}
use Rattle.standard.specs.Framing.{start_of, frame_of, unstuff, only_needed, escapes_needed}
use Rattle.standard.specs.Judge.{whole_of, plain, judge}
use Rattle.standard.proofs.Messages.{both_true}
use Rattle.standard.proofs.Framings.{Bytes, bytes_none, bytes_cons}
use Rattle.writer.specs.RoundTrip.{HandsOut}
use Rattle.writer.proofs.RoundTrip.{written_needed, read_then_write}

-- A NEEDLESS ESCAPE IS NOT WRITTEN AGAIN: where the condition fails, no message's frame is that part
pub needless_differs : (f : Framing) (after m : List ℕ) → escapes_needed f after ≡ false
    → frame_of f m ≡ start_of f ∷ after → ⊥
needless_differs f after m h e =
    let needed = written_needed f after m e in
    let z : ◌≡◌ {A = ℕ} 0 1 = cc in
    omega arith

-- EXACTLY THESE ARE WRITTEN AGAIN: of the parts up to their deciding byte that hand out m, those whose only escapes
-- were needed
pub written_again : (f : Framing) (front : List ℕ) (last : ℕ) (m : List ℕ) → HandsOut Lenient f front last m
    → (escapes_needed f (front ++ (last ∷ [])) ≡ true → frame_of f m ≡ start_of f ∷ front ++ (last ∷ []))
    × (frame_of f m ≡ start_of f ∷ front ++ (last ∷ []) → escapes_needed f (front ++ (last ∷ [])) ≡ true)
written_again f front last m r = (read_then_write Lenient f front last m r, written_needed f (front ++ (last ∷ [])) m)

-- 01 7D 3D 1E, and then 1F
abbrev pub front : List ℕ
front = 0x01 ∷ 0x7D ∷ 0x3D ∷ 0x1E ∷ []

-- a computed test for bytes
all_bytes : List ℕ → Bool
all_bytes [] = true
all_bytes (b ∷ bs) = ltb b 256 && all_bytes bs

are_bytes : (l : List ℕ) → all_bytes l ≡ true → Bytes l
unfolding all_bytes
are_bytes [] h = bytes_none
are_bytes (b ∷ bs) h =
    let both = both_true (ltb b 256) (all_bytes bs) h in
    bytes_cons b bs (ltb-true b 256 both.0) (are_bytes bs both.1)

pub needless_reads : HandsOut Lenient Binary front 0x1F (0x1D ∷ [])
unfolding all_bytes unstuff whole_of sums_of prefixes total length_for values_ok
needless_reads = record {
  bytes = are_bytes (front ++ (0x1F ∷ [])) refl;
  alone = refl;
  before = refl;
  said = refl;
}

pub needless_escape : escapes_needed Binary (front ++ (0x1F ∷ [])) ≡ false
unfolding only_needed
needless_escape = refl

pub needless_strict : judge Strict Binary (0x7E ∷ front ++ (0x1F ∷ [])) ≡ plain 15
unfolding unstuff
needless_strict = refl
