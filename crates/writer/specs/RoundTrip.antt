-- Demand 2: which part is written again byte for byte once it was read. Assumes nothing.
use Rattle.std.specs.Prelude.{ℕ, ◌<◌, ◌≡◌, Bool, true, false, List, [], ◌∷◌, ◌++◌, get_or}
use Rattle.standard.specs.declared.Framing.{Framing}
use Rattle.standard.specs.declared.Escapes.{Escapes}
use Rattle.standard.specs.declared.Escapes.TheVariants.{Strict, Lenient}
use Rattle.standard.specs.Messages.{among}
use Rattle.standard.specs.Framing.{start_of, escapes_needed}
use Rattle.standard.specs.Judge.{decided, unfinished, handing, judge}

-- the condition on the bytes after a start: "if its only escapes were those for 7Eh and 7Dh"; "under the strict rule ..
-- no condition" (document 02, No. 5)
abbrev pub comes_back : Escapes → Framing → List ℕ → Bool
comes_back Strict f after = true
comes_back Lenient f after = escapes_needed f after

-- a part from its start byte to its deciding byte, both included, that hands out m by this rule of escapes: there is no
-- other start byte in it, and without its last byte nothing is decided
pub record HandsOut (rule : Escapes) (f : Framing) (front : List ℕ) (last : ℕ) (m : List ℕ) : Type 0 where
  pub bytes : (i : ℕ) → get_or (front ++ (last ∷ [])) i 0 < 256
  pub alone : among (start_of f) (front ++ (last ∷ [])) ≡ false
  pub before : judge rule f (start_of f ∷ front) ≡ unfinished
  pub said : judge rule f (start_of f ∷ front ++ (last ∷ [])) ≡ decided (handing 0 m)
