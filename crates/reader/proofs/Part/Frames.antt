-- Laws of the judgement of a part's recovered bytes, as the two framings' proofs use it, and of a whole frame. Assumes
-- nothing.
use Prim.Native.Nat.{ℕ, zero, suc, ◌+◌, ◌≤◌, ◌<◌}
use native.Mathlib.Omega.{arith}
use mathlib.Core.Path.{◌≡◌, refl, ap, ◌∙◌}
use mathlib.Core.Bool.{Bool, true, false, cond}
use mathlib.Core.Option.{Option}
use mathlib.Core.List.{List, [], ◌∷◌, ◌++◌}
use lib.Dec.{eqb, leb}
use lib.ListN.{length, take, drop, length-append}
use borrow.Author.Tests.{lt-ltb, le-ltb}
use Rattle.standard.specs.Messages.{length_ok, message_tests}
use Rattle.standard.specs.Judge.{Judged, plain, stuck, sums_differ, whole_of, frame_judged}
pub use Rattle.standard.proofs.Decided.{whole_front}
use Rattle.standard.proofs.Refusals.{numbers_in, first_within}

pub length_snoc : (l : List ℕ) (b : ℕ) → length (l ++ (b ∷ [])) ≡ suc (length l)
length_snoc l b = length-append l (b ∷ []) ∙ omega arith

-- a value chosen by a test, by its two cases
pub by_test : {A : Type 0} (P : A → Type 0) (t : Bool) (x y : A) → (t ≡ true → P x) → (t ≡ false → P y) → P (cond t x y)
by_test P true x y then else = then refl
by_test P false x y then else = else refl

-- ---- the bytes after the length: too few, or enough

pub frame_bad : (L : ℕ) (rest : List ℕ) (fault : Option ℕ) (end : ℕ → List ℕ → Judged) → length_ok L ≡ false
    → frame_judged (L ∷ rest) fault end ≡ plain 4
frame_bad L rest fault end h = rw h

pub frame_short : (L : ℕ) (rest : List ℕ) (fault : Option ℕ) (end : ℕ → List ℕ → Judged) → length_ok L ≡ true
    → length rest < L + 2
    → frame_judged (L ∷ rest) fault end ≡ stuck fault
frame_short L rest fault end h k = rw (h, lt-ltb (length rest) (L + 2) k)

pub frame_full : (L : ℕ) (rest : List ℕ) (fault : Option ℕ) (end : ℕ → List ℕ → Judged) → length_ok L ≡ true
    → L + 2 ≤ length rest
    → frame_judged (L ∷ rest) fault end ≡ end L rest
frame_full L rest fault end h k = rw (h, le-ltb (length rest) (L + 2) k)

-- two judgements that end alike at the length and the bytes after it
pub frame_end : (bs : List ℕ) (fault : Option ℕ) (e₁ e₂ : ℕ → List ℕ → Judged)
    → ((L : ℕ) (rest : List ℕ) → bs ≡ L ∷ rest → e₁ L rest ≡ e₂ L rest)
    → frame_judged bs fault e₁ ≡ frame_judged bs fault e₂
frame_end [] fault e₁ e₂ h = refl
frame_end (L ∷ rest) fault e₁ e₂ h = rw (h L rest refl)

-- ---- a whole frame

-- the message stands after the length byte of the bytes kept
abbrev pub Stands : List ℕ → List ℕ → Type 0
Stands message kept = (more : List ℕ) → take (length message) (drop 1 (kept ++ more)) ≡ message

front_of : (L : ℕ) (rest more : List ℕ) → take (length (take L rest)) (rest ++ more) ≡ take L rest
front_of zero rest more = refl
front_of (suc n) [] more = refl
front_of (suc n) (b ∷ rest) more = ap (λ l. b ∷ l) (front_of n rest more)

message_stands : (good : Bool) (L : ℕ) (rest more : List ℕ)
    → take (length (cond good (take L rest) [])) (rest ++ more) ≡ cond good (take L rest) []
message_stands true L rest more = front_of L rest more
message_stands false L rest more = refl

pub whole_stands : (stop : List (Bool × ℕ)) (L : ℕ) (rest : List ℕ) → Stands (whole_of stop L rest).message (L ∷ rest)
unfolding whole_of
whole_stands stop L rest more = message_stands (eqb (whole_of stop L rest).verdict 0) L rest more

-- the numbers beside a frame's tests are at most 8, and so is its verdict
pub whole_sheet : (stop : List (Bool × ℕ)) (L : ℕ) (rest : List ℕ)
    → numbers_in (λ n. leb n 8) (stop ++ ((sums_differ L rest, 5) ∷ message_tests (take L rest))) ≡ true
    → (whole_of stop L rest).verdict ≤ 8
unfolding whole_of
whole_sheet stop L rest k = first_within 8 (stop ++ ((sums_differ L rest, 5) ∷ message_tests (take L rest))) k
