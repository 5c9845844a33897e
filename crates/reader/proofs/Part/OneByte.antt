-- What one byte does, in every mode: it leaves the framing alone, and what it hands out is what the part would have.
-- Assumes nothing.
use Prim.Native.Nat.{ℕ}
use mathlib.Core.Path.{◌≡◌, refl}
use mathlib.Core.Bool.{true, false, cond}
use mathlib.Core.List.{List, [], ◌∷◌, ◌++◌}
use lib.Dec.{eqb}
use Rattle.standard.specs.declared.Framing.{Framing}
use Rattle.standard.specs.declared.Framing.TheVariants.{Binary, Ascii}
use Rattle.standard.specs.declared.Escapes.{Escapes}
use Rattle.standard.specs.Framing.{start_of}
use Rattle.standard.specs.Judge.{handing, unfinished, judge_after}
use Rattle.reader.specs.declared.Mode.{Mode}
use Rattle.reader.specs.declared.Mode.TheVariants.{Skipping, Open, Escape, Digit}
use Rattle.reader.specs.Step.{State, Step, framing_of, cut_short, opens, goes_on, step_of}
use Rattle.reader.proofs.State.Soundness.{Fits}
use Rattle.reader.proofs.Part.Frames.{by_test}
use Rattle.reader.proofs.Part.Judging.{left_of, is_open, open_hands, Does, skips, on, over}
use Rattle.reader.proofs.Part.BinaryPart.{binary, escaped, binary_end}
use Rattle.reader.proofs.Part.AsciiPart.{ascii, digit, ascii_end, digit_end, ascii_new}

-- every mode
pub does : (rule : Escapes) (m : Mode) (held : List ℕ) (b : ℕ) → Does rule m held b (goes_on rule m held b)
does rule (Skipping f) held b = skips
does rule (Open Binary) held b = binary rule held b
does rule (Open Ascii) held b = ascii rule held b
does rule Escape held b = escaped rule held b
does rule (Digit d) held b = digit rule held d b

does_framing : {rule : Escapes} {m : Mode} {held : List ℕ} {b : ℕ} {t : Step} → Does rule m held b t
    → framing_of t.next.mode ≡ framing_of m
does_framing skips = refl
does_framing (on x) = x.framing
does_framing (over x) = x.framing

-- the framing stays
pub framing_step : (rule : Escapes) (s : State) (b : ℕ) → framing_of (step_of rule s b).next.mode ≡ framing_of s.mode
unfolding step_of
framing_step rule s b =
    by_test (λ t. framing_of t.next.mode ≡ framing_of s.mode) (eqb b (start_of (framing_of s.mode))) (opens s)
    (goes_on rule s.mode s.held b)
    (λ e. refl) (λ e. does_framing (does rule s.mode s.held b))

-- what the byte and the state after it hand out is what the part would have
does_hands : {rule : Escapes} {m : Mode} {held : List ℕ} {b : ℕ} {t : Step} → Does rule m held b t → Fits m held
    → (q : List ℕ) (later : List (List ℕ))
    → open_hands rule m held (b ∷ q) later ≡ t.said ++ open_hands rule t.next.mode t.next.held q later
does_hands skips k q later = refl
does_hands (on x) k q later = rw (x.was, x.is, x.left k q)
does_hands (over x) k q later = rw (x.was, x.left k q)

-- in a part, by a byte that is no start
pub hands_on : (rule : Escapes) (m : Mode) (held : List ℕ) (b : ℕ) → Fits m held → (q : List ℕ) (later : List (List ℕ))
    → open_hands rule m held (b ∷ q) later
    ≡ (goes_on rule m held b).said
    ++ open_hands rule (goes_on rule m held b).next.mode (goes_on rule m held b).next.held q later
hands_on rule m held b k q later = does_hands (does rule m held b) k q later

-- a start byte cuts an open frame short
pub cut_is : (m : Mode) → cut_short m ≡ cond (is_open m) (handing 1 [] ∷ []) []
cut_is (Skipping f) = refl
cut_is (Open f) = refl
cut_is Escape = refl
cut_is (Digit d) = refl

-- a frame that nothing follows is unfinished
left_end : (rule : Escapes) (m : Mode) (held : List ℕ) → Fits m held → left_of rule m held [] ≡ unfinished
left_end rule (Skipping f) held k = refl
left_end rule (Open Binary) held k = binary_end rule held false k.0
left_end rule (Open Ascii) held k = ascii_end held k.0
left_end rule Escape held k = binary_end rule held true k.0
left_end rule (Digit d) held k = digit_end held d k.0

-- at a start byte
pub hands_cut : (rule : Escapes) (m : Mode) (held part : List ℕ) (later : List (List ℕ)) → Fits m held
    → open_hands rule m held [] (part ∷ later) ≡ cut_short m
hands_cut rule m held part later k = rw (left_end rule m held k, cut_is m)

-- at the end
pub hands_none : (rule : Escapes) (m : Mode) (held : List ℕ) → Fits m held → open_hands rule m held [] [] ≡ []
hands_none rule m held k = rw (left_end rule m held k) (by_test (λ l. l ≡ []) (is_open m) [] [] (λ e. refl) (λ e. refl))

-- a frame just opened hands out what its whole part does
pub hands_new : (rule : Escapes) (f : Framing) (q : List ℕ) → left_of rule (Open f) [] q ≡ judge_after rule f q
hands_new rule Binary q = refl
hands_new rule Ascii q = ascii_new rule q
