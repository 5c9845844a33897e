-- What is said of a read, in numbers. Assumes nothing.
use Prim.Native.Nat.{ℕ, ◌+◌, ◌≤◌}
use native.Mathlib.Omega.{arith}
use mathlib.Core.Path.{◌≡◌, refl, ap}
use mathlib.Core.Bool.{Bool, true, false, cond}
use mathlib.Core.List.{List, [], ◌∷◌, map, head-eq_of_cons-eq, cons≢nil}
use lib.Dec.{eqb}
use lib.ListN.{length, take}
use lib.Seq.{take-append_seam}
use borrow.Author.Tests.{eq-eqb, ne_eqb}
use Rattle.std.specs.Prelude.{Option}
use Rattle.std.specs.Prelude.{Some, None}
use Rattle.standard.specs.declared.Verdict.{Verdict}
use Rattle.standard.specs.Messages.{longest, longest_known}
use Rattle.standard.specs.Judge.{Handed, handing, verdict_for, verdicts_in, handed_in}
use Rattle.standard.specs.Replies.{reply_of}
use Rattle.standard.specs.Table.{table_bytes, table_after, applied_to}
use Rattle.standard.proofs.Messages.{both_true}
use Rattle.reader.specs.declared.Reader.{Reader}
use Rattle.reader.specs.Read.{Given, sound_reader, read_of, Gives}
use Rattle.reader.proofs.State.Soundness.{sound_held}
use Rattle.reader.proofs.State.Arrays.{sound_read}
use Rattle.reader.proofs.State.Short.{Short, read_short}
use Rattle.reader.proofs.State.Handing.{said_for, one_verdict}
use Rattle.host.specs.Hear.{reply_to}
use Rattle.nx584.specs.declared.CReader.{CReader}
use Rattle.nx584.specs.Boundary.{reader_for, mode_ok, sound_c, number_said, type_said, message_said, length_said}
use Rattle.nx584.specs.Boundary.{numbers_said, padded, c_reader, c_took, c_refused, c_read}
use Rattle.nx584.specs.Boundary.{c_heard}

-- a message that is handed out is no longer than the longest of the 41
pub few_said : (said : Option Verdict) (hs : List Handed) → verdicts_in said ≡ map verdict_for hs → Short hs
    → length_said said ≤ longest_known
few_said None hs e k = omega arith
few_said (Some v) [] e k = absurd (cons≢nil e)
few_said (Some v) (h ∷ hs) e k =
    let same : v.length ≡ length h.message = ap (λ (w : Verdict). w.length) (head-eq_of_cons-eq e) in
    omega arith

-- soundness as the code asks it
pub no_mode : (c : CReader) → mode_ok c.mode c.digit ≡ false → sound_c c ≡ false
unfolding sound_c
no_mode c h = rw h

pub a_mode : (c : CReader) → mode_ok c.mode c.digit ≡ true → sound_c c ≡ sound_reader (reader_for c)
unfolding sound_c
a_mode c h = rw h

-- ---- a read by numbers

pub c_sound : (c : CReader) → sound_c c ≡ true → sound_reader (reader_for c) ≡ true
unfolding sound_c
c_sound c h = (both_true (mode_ok c.mode c.digit) (sound_reader (reader_for c)) h).1

pub read_took : (c : CReader) (bs : List ℕ) → sound_c c ≡ true
    → c_read c bs ≡ c_took c.escapes (read_of (reader_for c) bs)
unfolding c_read
read_took c bs h = rw h

pub read_refused : (c : CReader) (bs : List ℕ) → sound_c c ≡ false → c_read c bs ≡ c_refused c 12
unfolding c_read
read_refused c bs h = rw h

pub heard_c : (c : CReader) (t bs : List ℕ) → length t ≡ table_bytes → c_heard c t bs ≡ c_read c bs
unfolding c_heard
heard_c c t bs h = rw (eq-eqb (length t) table_bytes h)

pub heard_refused : (c : CReader) (t bs : List ℕ) → (length t ≡ table_bytes → ⊥) → c_heard c t bs ≡ c_refused c 11
unfolding c_heard
heard_refused c t bs h = rw (ne_eqb (length t) table_bytes h)

-- what a sound reader answers fits the numbers that C gets
pub took_fits : (r : Reader) (bs : List ℕ) (reader : Reader) (said : Option Verdict) → sound_reader r ≡ true
    → Gives reader said (read_of r bs)
    → (reader.held ≤ 65535) × (length_said said ≤ longest_known)
took_fits r bs reader said h g =
    let held : reader.held ≡ (read_of r bs).reader.held = ap (λ (x : Reader). x.held) g.next in
    let few : (read_of r bs).reader.held ≤ longest + 3 = sound_held (read_of r bs).reader (sound_read r bs h) in
    (omega arith, few_said said (read_of r bs).said g.verdict (read_short r bs))

-- an answer of code, in numbers
pub took_c : (escapes : ℕ) (a : Given) (reader : Reader) (used : ℕ) (said : Option Verdict) → Gives reader said a → used ≡ a.used
    → record { reader = c_reader escapes reader; used = used; said = handed_in said reader.bytes } ≡ c_took escapes a
took_c escapes a reader used said g u = rw (g.handed, u, g.next)

-- ---- what was said, from its numbers

pub length_said_lem : (said : Option Verdict) → (numbers_said said).length ≡ length_said said
length_said_lem None = refl
length_said_lem (Some v) = refl

pub reply_said : (hs : List Handed) → reply_of (number_said hs) (type_said hs) ≡ reply_to hs
unfolding reply_of
reply_said [] = refl
reply_said (h ∷ hs) = refl

-- the table after an answer that says this, by its numbers
abbrev stored_by : List ℕ → List Handed → List ℕ
stored_by t hs = cond (eqb (number_said hs) 0) (applied_to t (take (length (message_said hs)) (padded (message_said hs)))) t

stored_said : (t : List ℕ) (hs : List Handed) → verdicts_in (said_for hs) ≡ map verdict_for hs
    → stored_by t hs
    ≡ table_after t hs
unfolding table_after
stored_said t [] e = refl
stored_said t (h ∷ []) e = rw (take-append_seam h.message _)
stored_said t (h ∷ g ∷ hs) e = absurd (let z = ap length e in omega arith)

-- a read by numbers says at most one verdict, and its message fits
pub stored_c : (c : CReader) (t bs : List ℕ)
    → stored_by t (c_read c bs).said ≡ table_after t (c_read c bs).said
stored_c c t bs = go (sound_c c) refl
  where
    go : (b : Bool) → sound_c c ≡ b
        → stored_by t (c_read c bs).said
        ≡ table_after t (c_read c bs).said
    go true h = rw (read_took c bs h) (stored_said t (read_of (reader_for c) bs).said (one_verdict (reader_for c) bs))
    go false h = rw (read_refused c bs h) (stored_said t (handing 12 [] ∷ []) refl)
