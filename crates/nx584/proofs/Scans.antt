-- `CReader::scan` from what `reader::scan` promises: 12 exactly where the reader is not sound, and else the read.
-- Assumes nothing.
use Prim.Native.Nat.{ℕ, ◌+◌, ◌≤◌}
use native.Mathlib.Omega.{arith}
use mathlib.Core.Path.{◌≡◌, refl, sym, ap, ◌∙◌}
use mathlib.Core.Logic.{◌⊎◌, inl, inr}
use mathlib.Core.Bool.{Bool, true, false, cond}
use mathlib.Core.List.{List, [], ◌∷◌, map, head-eq_of_cons-eq, cons≢nil, nil≢cons}
use lib.Dec.{eqb}
use lib.ListN.{length, take, drop, length-drop}
use lib.Seq.{length-take-le, take-append_seam}
use Rattle.std.specs.Prelude.{Option}
use Rattle.std.specs.Prelude.{Some, None}
use Rattle.standard.specs.declared.Verdict.{Verdict}
use Rattle.standard.specs.Messages.{longest}
use Rattle.standard.specs.Judge.{Handed, verdict_for, verdicts_in, handed_in}
use Rattle.standard.specs.Table.{table_after, applied_to}
use Rattle.standard.proofs.Refusals.{no_refusal}
use Rattle.reader.specs.declared.Reader.{Reader}
use Rattle.reader.specs.Read.{sound_reader, read_of, Reads}
use Rattle.reader.proofs.State.Arrays.{read_unsound}
use Rattle.reader.proofs.State.Handing.{sound_verdict}
use Rattle.nx584.specs.declared.CReader.{CReader}
use Rattle.nx584.specs.declared.CReading.{CReading}
use Rattle.nx584.specs.declared.CSaid.{CSaid}
use Rattle.nx584.specs.Boundary.{reader_for, sound_c, number_said, numbers_said, length_said}
use Rattle.nx584.specs.Boundary.{padded, c_reader, c_reading, c_read}
use Rattle.nx584.specs.Scan.{refused_as, message_in, reading_in, CScans}
use Rattle.nx584.proofs.InC.{c_sound, read_took, read_refused, took_fits, took_c, length_said_lem, stored_c}

-- ---- 12

number_said_lem : (said : Option Verdict) (hs : List Handed) → verdicts_in said ≡ map verdict_for hs
    → (numbers_said said).number ≡ number_said hs
number_said_lem None [] e = refl
number_said_lem None (h ∷ hs) e = absurd (nil≢cons e)
number_said_lem (Some v) [] e = absurd (cons≢nil e)
number_said_lem (Some v) (h ∷ hs) e = ap (λ (w : Verdict). w.number) (head-eq_of_cons-eq e)

-- a sound reader never gives it
sound_other : (r : Reader) (bs : List ℕ) → sound_reader r ≡ true → (hs : List Handed) → (read_of r bs).said ≡ hs
    → number_said hs ≡ 12 → ⊥
sound_other r bs h [] e z = omega arith
sound_other r bs h (g ∷ hs) e z = not_12 (no_refusal r.escapes (sound_verdict r bs g hs h e))
  where
    not_12 : g.verdict ≤ 8 ⊎ (g.verdict ≡ 15) → ⊥
    not_12 (inl few) = omega arith
    not_12 (inr fifteen) = omega arith

module _ (r : Reader) (bs : List ℕ) (reader : Reader) (used : ℕ) (said : Option Verdict) (w : Reads r bs reader used said) where
  number : (numbers_said said).number ≡ number_said (read_of r bs).said
  number = number_said_lem said (read_of r bs).said w.gives.verdict

  pub twelve : (numbers_said said).number ≡ 12 → sound_reader r ≡ false
  twelve z = by_sound (sound_reader r) refl
    where
      by_sound : (t : Bool) → sound_reader r ≡ t → t ≡ false
      by_sound true h = absurd (sound_other r bs h (read_of r bs).said refl (sym number ∙ z))
      by_sound false h = refl

  pub not_twelve : ((numbers_said said).number ≡ 12 → ⊥) → sound_reader r ≡ true
  not_twelve z = by_sound (sound_reader r) refl
    where
      by_sound : (t : Bool) → sound_reader r ≡ t → t ≡ true
      by_sound true h = refl
      by_sound false h = absurd (z (number ∙ ap (λ a. number_said a.said) (read_unsound r bs h)))

  -- and the frame's bytes stay
  pub twelve_stays : sound_reader r ≡ false → reader.bytes ≡ r.bytes
  twelve_stays h =
      ap (λ (x : Reader). x.bytes) (w.gives.next ∙ ap (λ a. a.reader) (read_unsound r bs h))

-- ---- what `CReader::scan` promises

-- a reader that is not sound
pub scans_refused : (c : CReader) (bs : List ℕ) → length c.bytes ≡ longest + 3 → sound_c c ≡ false
    → CScans c bs (refused_as 12) c
scans_refused c bs size h =
    record { says = ap c_reading (sym (read_refused c bs h)); few = omega arith; sized = size }

-- with or without a verdict, of which the message stands in the frame's bytes
said_scanned : (escapes : ℕ) (reader : Reader) (used : ℕ) (said : Option Verdict)
    → length_said said + 1 ≤ length reader.bytes
    → reading_in (c_reader escapes reader) (record { used = used; verdict = numbers_said said })
    ≡ c_reading (record { reader = c_reader escapes reader; used = used; said = handed_in said reader.bytes })
said_scanned escapes reader used None h = refl
said_scanned escapes reader used (Some v) h =
    let rest = drop 1 reader.bytes in
    let room : v.length ≤ length rest = omega (arith, length-drop 1 reader.bytes) in
    let size : length (take v.length rest) ≡ v.length = length-take-le v.length rest room in
    rw size

-- a sound one
pub scans_sound : (c : CReader) (bs : List ℕ) (reader : Reader) (used : ℕ) (said : Option Verdict) → sound_c c ≡ true
    → length reader.bytes ≡ longest + 3
    → Reads (reader_for c) bs reader used said
    → CScans c bs (record { used = used; verdict = numbers_said said }) (c_reader c.escapes reader)
scans_sound c bs reader used said h size w =
    let fits = (took_fits (reader_for c) bs reader said (c_sound c h) w.gives).1 in
    record {
      says =
          said_scanned c.escapes reader used said (omega arith)
          ∙ ap c_reading
          (took_c c.escapes (read_of (reader_for c) bs) reader used said w.gives w.uses
          ∙ sym (read_took c bs h));
      few = rw (length_said_lem said) fits;
      sized = size;
    }

-- ---- the message of a scan

module _ (c : CReader) (bs : List ℕ) (s : CSaid) (next : CReader) (w : CScans c bs s next) where
  whole : length (message_in next s) ≡ s.verdict.length
  whole = length-take-le s.verdict.length (drop 1 next.bytes) (omega (arith, w.few, w.sized, length-drop 1 next.bytes))

  -- in its array it is the same
  in_array : take s.verdict.length (padded (message_in next s)) ≡ message_in next s
  in_array =
      ap (λ (n : ℕ). take n (padded (message_in next s))) (sym whole) ∙ take-append_seam (message_in next s) _

  -- what a table is with it
  pub scanned_stored : (t : List ℕ)
      → cond (eqb s.verdict.number 0) (applied_to t (message_in next s)) t ≡ table_after t (c_read c bs).said
  scanned_stored t =
      ap (λ (m : List ℕ). cond (eqb s.verdict.number 0) (applied_to t m) t) (sym in_array)
      ∙ ap (λ (x : CReading). cond (eqb x.verdict 0) (applied_to t (take x.length x.message)) t) w.says
      ∙ stored_c c t bs
