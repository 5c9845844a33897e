-- What a byte comes to on the bytes held, as one equation of `step_of`, `takes` or `takes_character`. Assumes nothing.
use Prim.Native.Nat.{ℕ, suc, ◌+◌, ◌<◌}
use native.Mathlib.Omega.{arith}
use mathlib.Core.Path.{◌≡◌, refl}
use mathlib.Core.Bool.{true, cond}
use mathlib.Core.Option.{none}
use mathlib.Core.List.{List, [], ◌∷◌, ◌++◌}
use lib.Dec.{eqb, eqb-suc-zero}
use lib.ListN.{length, get_or}
use borrow.Author.Tests.{ne_eqb, lt-ltb, lt-leb}
use Rattle.standard.specs.declared.Framing.{Framing}
use Rattle.standard.specs.declared.Framing.TheVariants.{Binary, Ascii}
use Rattle.standard.specs.declared.Escapes.{Escapes}
use Rattle.standard.specs.Messages.{length_ok}
use Rattle.standard.specs.Framing.{start_of, value_of}
use Rattle.reader.specs.declared.Mode.{Mode}
use Rattle.reader.specs.declared.Mode.TheVariants.{Open}
use Rattle.reader.specs.Step.{framing_of, goes, takes, takes_digit, takes_character, goes_on, step_of}
use Rattle.reader.specs.Decide.{step_in}

-- all are held, where their number is
pub all_held : (bytes : List ℕ) (n : ℕ) → length bytes ≡ n → cond (eqb n 0) [] bytes ≡ bytes
all_held [] n e = rw (← e)
all_held (b ∷ bytes) n e = rw (← e, eqb-suc-zero (length bytes))

-- ---- a start or none

pub no_start : (rule : Escapes) (m : Mode) (bytes : List ℕ) (b : ℕ) → (b ≡ start_of (framing_of m) → ⊥)
    → step_in rule m b bytes ≡ goes_on rule m bytes b
unfolding step_of
no_start rule m bytes b h = rw (ne_eqb b _ h)

-- ---- a recovered byte more

-- the length byte
pub takes_length : (f : Framing) (bytes : List ℕ) (x : ℕ) → length bytes ≡ 0 → length_ok x ≡ true
    → takes f bytes x ≡ goes (Open f) (bytes ++ (x ∷ []))
takes_length f [] x e h = rw h
takes_length f (b ∷ bytes) x e h = absurd (omega arith)

-- a byte after the length L
pub takes_ascii : (bytes : List ℕ) (x : ℕ) → 0 < length bytes
    → takes Ascii bytes x ≡ goes (Open Ascii) (bytes ++ (x ∷ []))
takes_ascii [] x h = absurd (omega arith)
takes_ascii (b ∷ bytes) x h = refl

pub takes_more : (bytes : List ℕ) (L x : ℕ) → 0 < length bytes → get_or bytes 0 L ≡ L → length bytes < L + 2
    → takes Binary bytes x ≡ goes (Open Binary) (bytes ++ (x ∷ []))
takes_more [] L x h e k = absurd (omega arith)
takes_more (b ∷ bytes) L x h e k = rw (lt-ltb (suc (length bytes)) (b + 2) (omega arith))

-- ---- a character with no digit pending

pub digit_due : (bytes : List ℕ) (L b : ℕ) → get_or bytes 0 L ≡ L → length bytes < L + 3
    → takes_character bytes b ≡ takes_digit none bytes (value_of b)
digit_due [] L b e k = refl
digit_due (x ∷ bytes) L b e k = rw (lt-leb (x + 2) (length bytes) (omega arith))
