-- Laws of refusals in their order: which numbers there are. Assumes nothing.
use Prim.Native.Nat.{ℕ, ◌≤◌}
use mathlib.Core.Path.{◌≡◌, refl}
use mathlib.Core.Logic.{◌⊎◌, inl, inr}
use mathlib.Core.Bool.{Bool, true, false, ◌&&◌, ◌||◌}
use mathlib.Core.List.{List, [], ◌∷◌, map, flat_map}
use lib.Dec.{eqb, leb}
use lib.ListN.{replicate}
use borrow.Author.Tests.{eqb-true, le-leb, leb-true}
use Rattle.standard.specs.declared.Framing.{Framing}
use Rattle.standard.specs.declared.Framing.TheVariants.{Binary, Ascii}
use Rattle.standard.specs.declared.Escapes.{Escapes}
use Rattle.standard.specs.declared.Escapes.TheVariants.{Strict, Lenient}
use Rattle.standard.specs.Words.{total, first_of}
use Rattle.standard.specs.Sums.{prefixes, sums_of}
use Rattle.standard.specs.Messages.{length_for, among, values_ok}
use Rattle.standard.specs.Framing.{coding, frame_of}
use Rattle.standard.specs.Writer.{write_tests, write_refusal}
use Rattle.standard.proofs.Messages.{both_true}

-- p holds of 0, and of the number beside each test
abbrev pub numbers_in : (ℕ → Bool) → List (Bool × ℕ) → Bool
numbers_in p [] = p 0
numbers_in p (test ∷ tests) = p test.1 && numbers_in p tests

-- so it holds of what is refused
pub first_in : (p : ℕ → Bool) (tests : List (Bool × ℕ)) → numbers_in p tests ≡ true → p (first_of tests) ≡ true
first_in p [] h = h
first_in p ((true, n) ∷ tests) h = (both_true (p n) (numbers_in p tests) h).0
first_in p ((false, n) ∷ tests) h = first_in p tests (both_true (p n) (numbers_in p tests) h).1

-- of numbers that are at most so much
pub first_within : (most : ℕ) (tests : List (Bool × ℕ)) → numbers_in (λ n. leb n most) tests ≡ true
    → first_of tests ≤ most
first_within most tests h = leb-true (first_of tests) most (first_in (λ n. leb n most) tests h)

-- ---- a stream's

-- what a part can be judged: by the strict rule also 15 (document 02, No. 5)
abbrev pub of_the_stream : Escapes → ℕ → Bool
of_the_stream Strict n = leb n 8 || eqb n 15
of_the_stream Lenient n = leb n 8

pub up_to_8 : (rule : Escapes) {n : ℕ} → n ≤ 8 → of_the_stream rule n ≡ true
up_to_8 Strict {n} h = rw (le-leb n 8 h)
up_to_8 Lenient {n} h = le-leb n 8 h

-- none is a refusal's number
pub no_refusal : (rule : Escapes) {n : ℕ} → of_the_stream rule n ≡ true → n ≤ 8 ⊎ (n ≡ 15)
no_refusal Strict {n} h = go (leb n 8) refl h
  where
    go : (t : Bool) → leb n 8 ≡ t → (t || eqb n 15) ≡ true → n ≤ 8 ⊎ (n ≡ 15)
    go true e k = inl (leb-true n 8 e)
    go false e k = inr (eqb-true n 15 k)
no_refusal Lenient {n} h = inl (leb-true n 8 h)

-- ---- the writer's (document 02, No. 4)

-- what the writer can answer
abbrev pub of_the_writer : ℕ → Bool
of_the_writer n = among n (0 ∷ 4 ∷ 6 ∷ 7 ∷ 8 ∷ 9 ∷ [])

-- for every message, framing, buffer and place
pub refusal_numbers : (m : List ℕ) (f : Framing) (out : List ℕ) (place : ℕ)
    → of_the_writer (write_refusal m f out place) ≡ true
unfolding write_refusal
refusal_numbers m f out place = first_in of_the_writer (write_tests m f out place) refl

-- and each of them is answered, in this order: of what is refused here the next test holds too
pub each_answered : (f : Framing)
    → map (λ (c : List ℕ × ℕ). write_refusal c.0 f (replicate c.1 0) 0)
    (([], 0)
    ∷ (0x22 ∷ [], 0)
    ∷ (0x26 ∷ 8 ∷ 0 ∷ [], 0)
    ∷ (0x26 ∷ 8 ∷ [], 0)
    ∷ (0x26 ∷ 7 ∷ [], 0)
    ∷ (0x26 ∷ 7 ∷ [], 12)
    ∷ [])
    ≡ 4 ∷ 6 ∷ 7 ∷ 8 ∷ 9 ∷ 0 ∷ []
unfolding write_refusal length_for values_ok frame_of coding flat_map sums_of total prefixes
each_answered Binary = refl
each_answered Ascii = refl
