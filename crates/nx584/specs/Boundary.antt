-- What C hands in and gets back, in numbers: include/nx584.h. No case of an enum crosses, so each is a number here.
-- Assumes nothing.
use Rattle.std.specs.Prelude.{ℕ, ◌≡◌, Bool, true, cond, ◌&&◌, List, [], ◌∷◌, map, eqb, leb, length, replicate}
use Rattle.std.proofs.Math.Option.{get_or}
use Rattle.std.specs.Float.{nan}
use Rattle.standard.specs.declared.Framing.{Framing}
use Rattle.standard.specs.declared.Framing.TheVariants.{Binary, Ascii}
use Rattle.standard.specs.declared.Escapes.{Escapes}
use Rattle.standard.specs.declared.Escapes.TheVariants.{Strict, Lenient}
use Rattle.standard.specs.Words.{laid}
use Rattle.standard.specs.Messages.{longest}
use Rattle.standard.specs.Judge.{Handed, handing}
use Rattle.standard.specs.declared.Verdict.{Verdict}
use Rattle.std.specs.Prelude.{Option}
use Rattle.std.specs.Prelude.{Some, None}
use Rattle.standard.specs.Refusals.{Written}
use Rattle.standard.specs.Writer.{written_of, after_write}
use Rattle.standard.specs.Table.{is_table, table_after}
use Rattle.standard.specs.Overview.{Counted, Seen}
use Rattle.reader.specs.declared.Mode.{Mode}
use Rattle.reader.specs.declared.Mode.TheVariants.{Skipping, Open, Escape, Digit}
use Rattle.reader.specs.declared.Reader.{Reader}
use Rattle.reader.specs.Step.{framing_of}
use Rattle.reader.specs.Read.{Given, sound_reader, fresh_reader, read_of}
use Rattle.host.specs.Hear.{reply_to}
use Rattle.nx584.specs.declared.CReader.{CReader}
use Rattle.nx584.specs.declared.CReading.{CReading}
use Rattle.nx584.specs.declared.CHearing.{CHearing}
use Rattle.nx584.specs.declared.CWritten.{CWritten}
use Rattle.nx584.specs.declared.CGroup.{CGroup}
use Rattle.nx584.specs.declared.COverview.{COverview}

-- ---- a reader in numbers

-- framing 0 is binary, any other ASCII
abbrev pub framing_for : ℕ → Framing
framing_for n = cond (eqb n 0) Binary Ascii

abbrev pub framing_number : Framing → ℕ
framing_number Binary = 0
framing_number Ascii = 1

-- escapes 0 is the strict rule, any other number the old one
abbrev pub escapes_for : ℕ → Escapes
escapes_for n = cond (eqb n 0) Strict Lenient

abbrev pub escapes_number : Escapes → ℕ
escapes_number Strict = 0
escapes_number Lenient = 1

-- 0 skipping, 1 in a frame, 2 after a 7Dh, 3 a digit pending
abbrev pub mode_number : Mode → ℕ
mode_number (Skipping f) = 0
mode_number (Open f) = 1
mode_number Escape = 2
mode_number (Digit d) = 3

abbrev pub digit_number : Mode → ℕ
digit_number (Skipping f) = 0
digit_number (Open f) = 0
digit_number Escape = 0
digit_number (Digit d) = d

-- mode 2 in ASCII and mode 3 in binary read as mode 1
abbrev pub pending_for : Framing → ℕ → ℕ → Mode
pending_for Binary mode digit = cond (eqb mode 2) Escape (Open Binary)
pending_for Ascii mode digit = cond (eqb mode 3) (Digit digit) (Open Ascii)

abbrev pub mode_for : Framing → ℕ → ℕ → Mode
mode_for f mode digit = cond (eqb mode 0) (Skipping f) (pending_for f mode digit)

abbrev pub reader_for : CReader → Reader
reader_for c = record {
  mode = mode_for (framing_for c.framing) c.mode c.digit;
  held = c.held;
  bytes = c.bytes;
  escapes = escapes_for c.escapes;
}

-- the number of its rule is the caller's own, and is handed back as it was
abbrev pub c_reader : ℕ → Reader → CReader
c_reader escapes r = record {
  framing = framing_number (framing_of r.mode);
  mode = mode_number r.mode;
  digit = digit_number r.mode;
  held = r.held;
  bytes = r.bytes;
  escapes = escapes;
}

-- what `nx584_fresh` and `nx584_fresh_lenient` answer
abbrev pub c_fresh : Escapes → ℕ → CReader
c_fresh rule framing = c_reader (escapes_number rule) (fresh_reader rule (framing_for framing))

-- a mode above 3 is unsound, and so is mode 3 with a digit above 15, in both framings; the rest is document 01's
-- soundness
abbrev pub mode_ok : ℕ → ℕ → Bool
mode_ok mode digit = leb mode 3 && cond (eqb mode 3) (leb digit 15) true

unfoldable pub sound_c : CReader → Bool
sound_c c = mode_ok c.mode c.digit && sound_reader (reader_for c)

-- the numbers that a call answers: framing 0 or 1, mode 2 in binary alone, mode 3 in ASCII alone, and a digit in mode 3
-- alone
abbrev pub settled : CReader → Bool
settled c =
    leb c.framing 1
    && leb c.mode 3
    && cond (eqb c.mode 2) (eqb c.framing 0) true
    && cond (eqb c.mode 3) (eqb c.framing 1) (eqb c.digit 0)

-- ---- what was said, in numbers

-- the verdict's number, and 255 for none
abbrev pub number_said : List Handed → ℕ
number_said [] = 255
number_said (h ∷ hs) = h.verdict

abbrev pub type_said : List Handed → ℕ
type_said [] = 0
type_said (h ∷ hs) = h.type_byte_of

abbrev pub message_said : List Handed → List ℕ
message_said [] = []
message_said (h ∷ hs) = h.message

-- the length of the message that a verdict of code hands out
abbrev pub length_said : Option Verdict → ℕ
length_said None = 0
length_said (Some v) = v.length

-- a verdict of code; 255 for none
abbrev pub numbers_said : Option Verdict → Verdict
numbers_said None = record { number = 255; type_byte = 0; length = 0 }
numbers_said (Some v) = v

-- a message in its array: zero beyond its length
abbrev pub padded : List ℕ → List ℕ
padded m = laid (replicate longest 0) 0 m

-- ---- what is promised

pub record CGiven : Type 0 where
  pub reader : CReader
  pub used : ℕ
  pub said : List Handed

-- on 11 and 12 every field of the reader comes back as it was handed in, and no byte is used
abbrev pub c_refused : CReader → ℕ → CGiven
c_refused c number = record { reader = c; used = 0; said = handing number [] ∷ [] }

abbrev pub c_took : ℕ → Given → CGiven
c_took escapes a = record { reader = c_reader escapes a.reader; used = a.used; said = a.said }

-- a read
unfoldable pub c_read : CReader → List ℕ → CGiven
c_read c bs = cond (sound_c c) (c_took c.escapes (read_of (reader_for c) bs)) (c_refused c 12)

-- a read with a table: 11, then 12
unfoldable pub c_heard : CReader → List ℕ → List ℕ → CGiven
c_heard c t bs = cond (is_table t) (c_read c bs) (c_refused c 11)

-- an answer of `nx584_read` and `nx584_step`
abbrev pub c_reading : CGiven → CReading
c_reading a = record {
  reader = a.reader;
  used = a.used;
  verdict = number_said a.said;
  type_byte = type_said a.said;
  length = length (message_said a.said);
  message = padded (message_said a.said);
}

-- a reading, with the reply to its verdict
abbrev pub with_reply : CReading → ℕ → CHearing
with_reply l reply = record {
  reader = l.reader;
  used = l.used;
  verdict = l.verdict;
  type_byte = l.type_byte;
  reply = reply;
  length = l.length;
  message = l.message;
}

-- an answer of `nx584_hear`
abbrev pub c_hearing : CGiven → CHearing
c_hearing a = with_reply (c_reading a) (reply_to a.said)

-- the table that `nx584_hear` leaves
abbrev pub c_left : CReader → List ℕ → List ℕ → List ℕ
c_left c t bs = table_after t (c_heard c t bs).said

-- what `nx584_hear` promises: its answer, and every byte of the table
pub record CHears (c : CReader) (t bs : List ℕ) (answer : CHearing) (after : List ℕ) : Type 0 where
  pub says : answer ≡ c_hearing (c_heard c t bs)
  pub leaves : after ≡ c_left c t bs

-- the writer's answer
abbrev pub c_written : Written → CWritten
c_written w = record { number = w.number; length = w.length }

-- what `nx584_write` promises: its answer, and every byte of the buffer
pub record CWrote (m : List ℕ) (framing : ℕ) (out : List ℕ) (place : ℕ) (answer : CWritten) (after : List ℕ)
    : Type 0 where
  pub says : answer ≡ c_written (written_of m (framing_for framing) out place)
  pub leaves : after ≡ after_write m (framing_for framing) out place

-- known is 1 exactly if some zone is heard; where it is 0, the share is a NaN
abbrev pub c_group : Counted → CGroup
c_group g = record {
  heard = g.heard;
  faulted = g.faulted;
  known = cond (eqb g.heard 0) 0 1;
  share = get_or g.share nan;
}

-- an answer of `nx584_view`
abbrev pub c_overview : Seen → COverview
c_overview s = record { number = s.number; groups = map c_group s.groups; site = c_group s.site }
