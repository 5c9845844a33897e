-- How long what is written is: a good message, its length byte on the line, and its frame. Assumes nothing.
use Prim.Native.Nat.{ℕ, ◌+◌, ◌*◌, ◌≤◌}
use native.Mathlib.Omega.{arith}
use mathlib.Core.Path.{◌≡◌, refl, ap, ◌∙◌}
use mathlib.Core.List.{List, [], ◌∷◌}
use lib.Dec.{lit≤}
use lib.ListN.{length, length-append}
use borrow.Author.Tests.{ne_eqb}
use Rattle.standard.specs.declared.Framing.{Framing}
use Rattle.standard.specs.declared.Framing.TheVariants.{Binary, Ascii}
use Rattle.standard.specs.Messages.{longest_known, length_for, check_of}
use Rattle.standard.specs.Framing.{stop_of, coded, coding, frame_of, most_of}
use Rattle.standard.proofs.Messages.{passed, good_few}
use Rattle.standard.proofs.Framings.{coded_one_or_two, coding_few}
use Rattle.writer.proofs.Pieces.{one, two, coding_cons, pieces_length}

-- a byte that no escape goes before is sent as it is
as_it_is : (b : ℕ) → (b ≡ 0x7E → ⊥) → (b ≡ 0x7D → ⊥) → coded Binary b ≡ b ∷ []
as_it_is b h k = rw (ne_eqb b 0x7E h, ne_eqb b 0x7D k)

-- A WRITTEN LENGTH NEVER NEEDS AN ESCAPE
pub length_plain : (m : List ℕ) → check_of m ≡ 0 → coded Binary (length m) ≡ length m ∷ []
length_plain m h =
    let few = good_few m h in
    as_it_is (length m) (λ e. omega (arith, few)) (λ e. omega (arith, few))

-- nor does a type byte: a number is recognised only with bit 6 clear, and 7Eh and 7Dh have it set
type_plain : (t : ℕ) → (length_for t ≡ 0 → ⊥) → coded Binary t ≡ t ∷ []
unfolding length_for
type_plain t h = as_it_is t (λ e. h (ap length_for e)) (λ e. h (ap length_for e))

-- start and stop, length and type byte
heads : (f : Framing) (t : ℕ) (m : List ℕ) → check_of (t ∷ m) ≡ 0
    → length (coded f (length (t ∷ m))) + length (coded f t) + length (stop_of f) + 2 * longest_known + 3 ≤ most_of f
heads Binary t m h = rw (length_plain (t ∷ m) h, type_plain t (passed (t ∷ m) h).known) (lit≤ tt)
heads Ascii t m h = lit≤ tt

-- HOW LONG A WRITTEN FRAME IS: beside its heads there are at most two characters for each byte and each sum
pub frame_few : (f : Framing) (m : List ℕ) → check_of m ≡ 0 → length (frame_of f m) ≤ most_of f
frame_few f [] h = let some = (passed [] h).sized.some in absurd (omega arith)
frame_few f (t ∷ m) h =
    let few = good_few (t ∷ m) h in
    let head = heads f t m h in
    let all = pieces_length f (t ∷ m) in
    let split = ap length (coding_cons f t m) ∙ length-append (coded f t) (coding f m) in
    let rest = coding_few f m in
    let sum1 = (coded_one_or_two f (one f (t ∷ m))).few in
    let sum2 = (coded_one_or_two f (two f (t ∷ m))).few in
    omega (arith, few, head, all, split, rest, sum1, sum2)

-- an ASCII frame is the longest
most_few : (f : Framing) → most_of f ≤ most_of Ascii
most_few Binary = lit≤ tt
most_few Ascii = lit≤ tt

pub frame_most : (f : Framing) (m : List ℕ) → check_of m ≡ 0 → length (frame_of f m) ≤ most_of Ascii
frame_most f m h = let own = frame_few f m h in let most = most_few f in omega (arith, own, most)

-- "at most 41 bytes", "at most 44"
pub most_is : (most_of Binary ≡ 41) × (most_of Ascii ≡ 44)
most_is = (refl, refl)
