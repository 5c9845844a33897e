-- A part judged from inside it: what its open frame hands out, by the bytes held, what is pending and what is still to
-- come. And what one byte bears on that (`Does`), which every other law of the reader goes by. Assumes nothing.
use Prim.Native.Nat.{ℕ, ◌+◌, ◌-◌, ◌*◌, ◌≤◌}
use mathlib.Core.Path.{◌≡◌}
use mathlib.Core.Bool.{true, false, cond}
use mathlib.Core.Option.{Option, none, some}
use mathlib.Core.List.{List, [], ◌∷◌, ◌++◌}
use lib.ListN.{length, drop}
use Rattle.standard.specs.declared.Framing.{Framing}
use Rattle.standard.specs.declared.Framing.TheVariants.{Binary, Ascii}
use Rattle.standard.specs.declared.Escapes.{Escapes}
use Rattle.standard.specs.Messages.{longest}
use Rattle.standard.specs.Framing.{Recovered, unstuff, digits_of, pairs, no_digit}
use Rattle.standard.specs.Judge.{Handed, Judged, decided, unfinished, at_stop, ended, frame_judged}
use Rattle.standard.specs.Stream.{part_hands}
use Rattle.standard.proofs.Refusals.{of_the_stream}
use Rattle.reader.specs.declared.Mode.{Mode}
use Rattle.reader.specs.declared.Mode.TheVariants.{Skipping, Open, Escape, Digit}
use Rattle.reader.specs.Step.{Step, framing_of, goes, ends}
pub use Rattle.reader.specs.Step.{is_open}
use Rattle.reader.proofs.State.Soundness.{Fits}
use Rattle.reader.proofs.Part.Frames.{Stands}

-- binary: what the bytes still to come give back, after the bytes held
abbrev pub given : List ℕ → Recovered → Judged
given held u = frame_judged (held ++ u.bytes) u.fault (ended Binary [])

-- ASCII: the digit pending, before the digits still to come
abbrev pub and_pending : Option ℕ → List ℕ → List ℕ
and_pending none ds = ds
and_pending (some h) ds = h ∷ ds

-- how many characters of the part are in the bytes held and the digit pending
abbrev pub spent : List ℕ → Option ℕ → ℕ
spent held none = 2 * length held
spent held (some h) = 2 * length held + 1

-- the stop's place, k characters on
abbrev pub end_from : ℕ → List ℕ → ℕ → List ℕ → Judged
end_from k q L rest = at_stop (drop (2 * (L + 3) - k) q) L rest

abbrev pub spelt : Option ℕ → List ℕ → List ℕ → Judged
spelt high held q = frame_judged (held ++ pairs (and_pending high (digits_of q))) (no_digit q) (end_from (spent held high) q)

-- the judgement of a part of which q is still to come
abbrev pub left_of : Escapes → Mode → List ℕ → List ℕ → Judged
left_of rule (Skipping f) held q = unfinished
left_of rule (Open Binary) held q = given held (unstuff rule false q)
left_of rule (Open Ascii) held q = spelt none held q
left_of rule Escape held q = given held (unstuff rule true q)
left_of rule (Digit d) held q = spelt (some d) held q

-- what the open frame hands out, with these parts after its own; nothing between frames
abbrev pub open_hands : Escapes → Mode → List ℕ → List ℕ → List (List ℕ) → List Handed
open_hands rule m held q later = cond (is_open m) (part_hands (left_of rule m held q) later) []

-- ---- one byte

-- the byte b goes on: what is left is judged alike from there
pub record On (rule : Escapes) (m : Mode) (held : List ℕ) (b : ℕ) (m' : Mode) (held' : List ℕ) : Type 0 where
  pub was : is_open m ≡ true
  pub is : is_open m' ≡ true
  pub framing : framing_of m' ≡ framing_of m
  pub grown : length held ≤ length held'
  pub fits : Fits m held → Fits m' held'
  pub left : Fits m held → (q : List ℕ) → left_of rule m held (b ∷ q) ≡ left_of rule m' held' q

-- the byte b decides, whatever follows
pub record Over (rule : Escapes) (m : Mode) (held : List ℕ) (b : ℕ) (f : Framing) (h : Handed)
    (kept : List ℕ) : Type 0 where
  pub was : is_open m ≡ true
  pub framing : f ≡ framing_of m
  pub grown : length held ≤ length kept
  pub few : Fits m held → length kept ≤ longest + 3
  pub stands : Stands h.message kept
  pub sheet : of_the_stream rule h.verdict ≡ true
  pub left : Fits m held → (q : List ℕ) → left_of rule m held (b ∷ q) ≡ decided h

-- all that a byte that is no start can do
pub data Does (rule : Escapes) : Mode → List ℕ → ℕ → Step → Type 0 where
  skips : {f : Framing} {held : List ℕ} {b : ℕ} → Does rule (Skipping f) held b (goes (Skipping f) held)
  on : {m m' : Mode} {held held' : List ℕ} {b : ℕ} → On rule m held b m' held' → Does rule m held b (goes m' held')
  over : {m : Mode} {held kept : List ℕ} {b : ℕ} {f : Framing} {h : Handed} → Over rule m held b f h kept
      → Does rule m held b (ends f h kept)
