-- Laws of "the frame does not fit", as the code tests it. Assumes nothing.
use Prim.Native.Nat.{ℕ, ◌-◌, ◌≤◌, ◌<◌}
use native.Mathlib.Omega.{arith}
use mathlib.Core.Path.{◌≡◌}
use mathlib.Core.Bool.{true, false}
use mathlib.Core.List.{[]}
use lib.Dec.{ltb}
use borrow.Author.Tests.{lt-ltb, le-ltb, ltb-false}
use Rattle.standard.specs.Writer.{no_room}
use Rattle.standard.proofs.Messages.{neither_true, or-true}
use Rattle.standard.proofs.Judge.{first_none}
use Rattle.writer.specs.Refusing.{room_refusal}

-- a place beyond the end
pub beyond : (frame place size : ℕ) → size < place → no_room frame place size ≡ true
beyond frame place size h = rw (lt-ltb size place h) (or-true (ltb (size - place) frame))

-- a frame longer than what is left
pub short : (frame place size : ℕ) → size - place < frame → no_room frame place size ≡ true
short frame place size h = rw (lt-ltb (size - place) frame h)

-- the frame fits exactly so
pub fits : (frame place size : ℕ) → place ≤ size → frame ≤ size - place → no_room frame place size ≡ false
fits frame place size h k = rw (le-ltb size place h, le-ltb (size - place) frame k)

pub fit : (frame place size : ℕ) → room_refusal frame place size ≡ 0 → (place ≤ size) × (frame ≤ size - place)
fit frame place size e =
    let none = (first_none (no_room frame place size) 9 [] (λ z. omega arith) e).0 in
    let told = neither_true (ltb (size - place) frame) (ltb size place) none in
    (ltb-false size place told.1, ltb-false (size - place) frame told.0)
