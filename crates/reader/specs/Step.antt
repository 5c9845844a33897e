-- Document 01: "A reader is a value: a byte goes in, the next reader and at most one verdict come out." Here over the
-- bytes held and what is pending; that the verdicts are those of the stream's parts is a theorem. Assumes nothing.
use Rattle.std.specs.Prelude.{ℕ, suc, ◌+◌, ◌*◌, Bool, true, false, cond, not, ◌&&◌, ◌||◌, List, [], ◌∷◌, ◌++◌, eqb, leb, ltb, length}
use Rattle.std.proofs.Math.Option.{Option, none, some}
use Rattle.std.specs.Int.Bits.{bit_xor}
use Rattle.standard.specs.declared.Framing.{Framing}
use Rattle.standard.specs.declared.Framing.TheVariants.{Binary, Ascii}
use Rattle.standard.specs.declared.Escapes.{Escapes}
use Rattle.standard.specs.Messages.{length_ok}
use Rattle.standard.specs.Framing.{start_of, may_follow, value_of}
use Rattle.standard.specs.Judge.{Handed, handing, whole_of}
use Rattle.reader.specs.declared.Mode.{Mode}
use Rattle.reader.specs.declared.Mode.TheVariants.{Skipping, Open, Escape, Digit}

-- the mode, and the recovered bytes held
pub record State : Type 0 where
  pub mode : Mode
  pub held : List ℕ

abbrev pub framing_of : Mode → Framing
framing_of (Skipping f) = f
framing_of (Open f) = f
framing_of Escape = Binary
framing_of (Digit d) = Ascii

-- in a frame
abbrev pub is_open : Mode → Bool
is_open (Skipping f) = false
is_open (Open f) = true
is_open Escape = true
is_open (Digit d) = true

-- ---- soundness, which no rule of escapes bears on

-- "at most L + 2 recovered bytes in binary, L + 3 in ASCII (the stop is then due and no digit pending)"
abbrev pub beyond_length : Mode → ℕ
beyond_length (Skipping Binary) = 2
beyond_length (Skipping Ascii) = 3
beyond_length (Open Binary) = 2
beyond_length (Open Ascii) = 3
beyond_length Escape = 2
beyond_length (Digit d) = 2

-- "a pending digit must be at most 15"
abbrev pub pending_ok : Mode → Bool
pending_ok (Skipping f) = true
pending_ok (Open f) = true
pending_ok Escape = true
pending_ok (Digit d) = leb d 15

-- "sound when it holds no recovered byte, or when the first is a length L of 1 to" 255 "and it holds at most ..
-- recovered bytes"; n bytes are held
abbrev pub sound_with : Mode → ℕ → ℕ → Bool
sound_with mode n L = (eqb n 0 || length_ok L && leb n (L + beyond_length mode)) && pending_ok mode

-- ---- one byte

-- the next state, at most one verdict, and the bytes of the frame that the byte was read in, which stay where they
-- stand after its verdict too
pub record Step : Type 0 where
  pub next : State
  pub said : List Handed
  pub kept : List ℕ

abbrev pub goes : Mode → List ℕ → Step
goes mode held = record { next = record { mode = mode; held = held }; said = []; kept = held }

-- "After a verdict everything up to the next start is skipped"
abbrev pub ends : Framing → Handed → List ℕ → Step
ends f h kept = record { next = record { mode = Skipping f; held = [] }; said = h ∷ []; kept = kept }

-- "Where 1 is given, the same byte opens the next frame"; "bytes before the first start give nothing"
abbrev pub cut_short : Mode → List Handed
cut_short (Skipping f) = []
cut_short (Open f) = handing 1 [] ∷ []
cut_short Escape = handing 1 [] ∷ []
cut_short (Digit d) = handing 1 [] ∷ []

abbrev pub opens : State → Step
opens s =
    record { next = record { mode = Open (framing_of s.mode); held = [] }; said = cut_short s.mode; kept = s.held }

-- a recovered byte more: 4 "at the length byte"; in binary the last sum byte decides
abbrev pub takes : Framing → List ℕ → ℕ → Step
takes f [] b = cond (length_ok b) (goes (Open f) (b ∷ [])) (ends f (handing 4 []) [])
takes Binary (L ∷ rest) b =
    cond (ltb (suc (length rest)) (L + 2)) (goes (Open Binary) (L ∷ rest ++ (b ∷ [])))
    (ends Binary (whole_of [] L (rest ++ (b ∷ []))) (L ∷ rest ++ (b ∷ [])))
takes Ascii (L ∷ rest) b = goes (Open Ascii) (L ∷ rest ++ (b ∷ []))

-- a byte where a digit is due, with the high digit before it, if it is the second
abbrev pub takes_digit : Option ℕ → List ℕ → Option ℕ → Step
takes_digit high held none = ends Ascii (handing 2 []) held
takes_digit none held (some d) = goes (Digit d) held
takes_digit (some h) held (some d) = takes Ascii held (h * 16 + d)

-- a byte in an ASCII frame with no digit pending: the stop, where it is due
abbrev pub takes_character : List ℕ → ℕ → Step
takes_character [] b = takes_digit none [] (value_of b)
takes_character (L ∷ rest) b =
    cond (leb (L + 2) (length rest))
    (ends Ascii (whole_of ((not (eqb b 0x0D), 3) ∷ []) L rest) (L ∷ rest))
    (takes_digit none (L ∷ rest) (value_of b))

-- a byte in a binary frame: the 7Dh of an escape, or one recovered
abbrev pub takes_binary : List ℕ → ℕ → Step
takes_binary held b = cond (eqb b 0x7D) (goes Escape held) (takes Binary held b)

-- a byte after a 7Dh: "15 bad escape, .. before 4 at the same byte"
abbrev pub takes_escaped : Escapes → List ℕ → ℕ → Step
takes_escaped rule held b =
    cond (may_follow rule b) (takes Binary held (bit_xor b 0x20)) (ends Binary (handing 15 []) held)

-- a byte that is no start
abbrev pub goes_on : Escapes → Mode → List ℕ → ℕ → Step
goes_on rule (Skipping f) held b = goes (Skipping f) held
goes_on rule (Open Binary) held b = takes_binary held b
goes_on rule (Open Ascii) held b = takes_character held b
goes_on rule Escape held b = takes_escaped rule held b
goes_on rule (Digit h) held b = takes_digit (some h) held (value_of b)

-- "A 7Eh on the line always starts a new frame, also right after 7Dh"; "A 0Ah always starts a new frame"
unfoldable pub step_of : Escapes → State → ℕ → Step
step_of rule s b = cond (eqb b (start_of (framing_of s.mode))) (opens s) (goes_on rule s.mode s.held b)
