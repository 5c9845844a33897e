-- Document 01: "Given a read, the reader goes up to and including the first verdict's byte, or to the end, and says how
-- many bytes it used." And what `step` and `read` promise. Assumes nothing.
use Rattle.std.specs.Prelude.{ℕ, suc, ◌+◌, ◌≡◌, Bool, cond, List, [], ◌∷◌, map, eqb, length, get_or, take, replicate}
use Rattle.standard.specs.declared.Framing.{Framing}
use Rattle.standard.specs.declared.Escapes.{Escapes}
use Rattle.std.specs.Prelude.{Option}
use Rattle.standard.specs.declared.Verdict.{Verdict}
use Rattle.standard.specs.Words.{laid}
use Rattle.standard.specs.Messages.{longest}
use Rattle.standard.specs.Judge.{Handed, handing, verdict_for, verdicts_in, handed_in}
use Rattle.reader.specs.declared.Mode.TheVariants.{Skipping}
use Rattle.reader.specs.declared.Reader.{Reader}
use Rattle.reader.specs.Step.{State, Step, sound_with, step_of}

-- ---- a read, over the bytes held

pub record Read : Type 0 where
  pub used : ℕ
  pub next : State
  pub said : List Handed
  pub kept : List ℕ

-- one byte, and the read of those after it where it gave nothing
abbrev pub read_on : List Handed → Step → Read → Read
read_on [] first later = record { used = suc later.used; next = later.next; said = later.said; kept = later.kept }
read_on (h ∷ hs) first later = record { used = 1; next = first.next; said = h ∷ []; kept = first.kept }

unfoldable pub scan_of : Escapes → State → List ℕ → Read
scan_of rule s [] = record { used = 0; next = s; said = []; kept = s.held }
scan_of rule s (b ∷ bs) = read_on (step_of rule s b).said (step_of rule s b) (scan_of rule (step_of rule s b).next bs)

-- ---- a reader as code has it

abbrev pub state_of : Reader → State
state_of r = record { mode = r.mode; held = take r.held r.bytes }

-- the number held is asked, and not how many bytes the array has
abbrev pub sound_reader : Reader → Bool
sound_reader r = sound_with r.mode r.held (get_or r.bytes 0 0)

-- a reader that has seen nothing, with this rule of escapes; its array has room for the length, the longest message and
-- two sums
abbrev pub fresh_reader : Escapes → Framing → Reader
fresh_reader rule f = record { mode = Skipping f; held = 0; bytes = replicate (longest + 3) 0; escapes = rule }

-- the reader after a read or a byte: the frame's bytes stand at the beginning of the array, its other bytes stay, and
-- so does its rule
abbrev pub reader_after : Reader → State → List ℕ → Reader
reader_after r next kept = record {
  mode = next.mode;
  held = length next.held;
  bytes = laid r.bytes 0 kept;
  escapes = r.escapes;
}

pub record Given : Type 0 where
  pub reader : Reader
  pub used : ℕ
  pub said : List Handed

-- "Reading with an unsound state gives 12, uses no byte and hands the state back"
abbrev pub not_sound : Reader → Given
not_sound r = record { reader = r; used = 0; said = handing 12 [] ∷ [] }

abbrev pub read_from : Reader → Read → Given
read_from r read = record { reader = reader_after r read.next read.kept; used = read.used; said = read.said }

-- THE ANSWER of a read, from any reader
unfoldable pub read_of : Reader → List ℕ → Given
read_of r bs = cond (sound_reader r) (read_from r (scan_of r.escapes (state_of r) bs)) (not_sound r)

-- two answers one after the other, by what the first, of one byte, said: that one where it gave a verdict
abbrev pub then_read : List Handed → Given → Given → Given
then_read [] first later = record { reader = later.reader; used = suc later.used; said = later.said }
then_read (h ∷ hs) first later = first

-- ---- what is promised

-- that an answer's reader and verdict are those of `a`: the verdict's numbers, and its message in the reader's array
pub record Gives (reader : Reader) (said : Option Verdict) (a : Given) : Type 0 where
  pub next : reader ≡ a.reader
  pub verdict : verdicts_in said ≡ map verdict_for a.said
  pub handed : handed_in said reader.bytes ≡ a.said

-- `read` answers with the reader, the verdict and the used bytes of `read_of`
pub record Reads (r : Reader) (bs : List ℕ) (reader : Reader) (used : ℕ) (said : Option Verdict) : Type 0 where
  pub gives : Gives reader said (read_of r bs)
  pub uses : used ≡ (read_of r bs).used

-- `step` gives what a read of the one byte gives
abbrev pub Steps : Reader → ℕ → Reader → Option Verdict → Type 0
Steps r b reader said = Gives reader said (read_of r (b ∷ []))

-- ---- with the frame's bytes in lent memory

-- THE ANSWER of `scan`: an array that is not a reader's is answered as a state that is not sound
unfoldable pub lent_read : Reader → List ℕ → Given
lent_read r bs = cond (eqb (length r.bytes) (longest + 3)) (read_of r bs) (not_sound r)

-- `scan` answers with the reader, the verdict and the used bytes of `lent_read`
pub record Lent (r : Reader) (bs : List ℕ) (reader : Reader) (used : ℕ) (said : Option Verdict) : Type 0 where
  pub gives : Gives reader said (lent_read r bs)
  pub uses : used ≡ (lent_read r bs).used
