-- Small words that the sections of document 01 share. Assumes nothing.
use Rattle.std.specs.Prelude.{ℕ, zero, suc, ◌+◌, ◌-◌, ◌/◌, ◌%◌, ◌^◌, ◌<◌, ◌≡◌, Bool, cond, List, [], ◌∷◌, ◌++◌, leb, length, get_or, take, drop}
use Rattle.std.proofs.lemmas.List.Edits.{sets}

-- bytes, as memory and line hold them
abbrev pub Bytes : List ℕ → Type 0
Bytes bs = (i : ℕ) → get_or bs i 0 < 256

-- byte k of a message, counted from 1 as document 003 counts
abbrev pub byte : ℕ → List ℕ → ℕ
byte k m = get_or m (k - 1) 0

-- bit k of a byte, counted from 0: 0 or 1
abbrev pub bit : ℕ → ℕ → ℕ
bit k x = x / 2 ^ k % 2

-- 0, 1, .., n - 1
unfoldable pub up_to : ℕ → List ℕ
up_to zero = []
up_to (suc n) = up_to n ++ (n ∷ [])

-- the plain total of some numbers
unfoldable pub total : List ℕ → ℕ
total [] = 0
total (n ∷ ns) = n + total ns

-- refusals in their order: the number beside the first test that holds, or 0 where none does
abbrev pub first_of : List (Bool × ℕ) → ℕ
first_of [] = 0
first_of (test ∷ tests) = cond test.0 test.1 (first_of tests)

-- a buffer with a part laid over it from a place on; its other bytes stay
abbrev pub laid : List ℕ → ℕ → List ℕ → List ℕ
laid buffer place part = take place buffer ++ part ++ drop (place + length part) buffer

-- what a function that puts bytes one after another has done: the part is stored from a place on, and `next` is the
-- place after it
pub record Put (buffer : List ℕ) (place : ℕ) (part : List ℕ) (after : List ℕ) (next : ℕ) : Type 0 where
  pub bytes : after ≡ sets buffer place part
  pub end : next ≡ place + length part

-- what a public put promises of any buffer, place and part: where it does not fit, nothing is done
pub record PutIfFits (buffer : List ℕ) (place : ℕ) (part : List ℕ) (after : List ℕ) (next : ℕ) : Type 0 where
  pub leaves : after ≡ cond (leb (place + length part) (length buffer)) (laid buffer place part) buffer
  pub says : next ≡ cond (leb (place + length part) (length buffer)) (place + length part) place
