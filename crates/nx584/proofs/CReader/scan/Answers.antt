-- `CReader::scan` meets its contract: 12 exactly where the reader is not sound, and else the read. Assumes nothing.
use Rattle.std.proofs.Common.{◌≡◌, ℕ, ◌+◌, ◌≤◌, List, true, length, sym, ap, ◌∙◌, arith}
use Rattle.std.specs.Prelude.{Option}
use Rattle.standard.specs.declared.Escapes.{Escapes}
use Rattle.standard.specs.declared.Verdict.{Verdict}
use Rattle.standard.specs.Messages.{longest}
use Rattle.reader.specs.declared.Mode.{Mode}
use Rattle.reader.specs.declared.Reader.{Reader}
use Rattle.reader.specs.Read.{Reads, Lent}
use Rattle.reader.proofs.State.Arrays.{lent_is_read, Whole, whole_read}
use Rattle.nx584.specs.declared.CReader.{CReader}
use Rattle.nx584.specs.declared.CSaid.{CSaid}
use Rattle.nx584.specs.Boundary.{framing_for, escapes_for, mode_for, mode_ok, reader_for, numbers_said, sound_c}
use Rattle.nx584.specs.Scan.{refused_as, CScans}
use Rattle.nx584.proofs.InC.{no_mode, a_mode, c_sound, took_fits}
use Rattle.nx584.proofs.Scans.{twelve, not_twelve, twelve_stays, scans_refused, scans_sound}
use Rattle.nx584.proofs.CReader.scan.Goals as goal

-- the reader after the scan
abbrev next : CReader → Mode → ℕ → List ℕ → Reader
next c mode held bytes = record { mode = mode; held = held; bytes = bytes; escapes = escapes_for c.escapes }

-- the reader with these bytes
abbrev with_bytes : CReader → List ℕ → CReader
with_bytes c bytes = record {
  framing = c.framing;
  mode = c.mode;
  digit = c.digit;
  held = c.held;
  bytes = bytes;
  escapes = c.escapes;
}

-- what the scan promises of it
told : (c : CReader) (bs : List ℕ) {from mode : Mode} {by : Escapes} {held used : ℕ} {bytes : List ℕ}
    {said : Option Verdict} → length c.bytes ≡ longest + 3
    → from ≡ mode_for (framing_for c.framing) c.mode c.digit
    → by ≡ escapes_for c.escapes
    → Lent (record { mode = from; held = c.held; bytes = c.bytes; escapes = by }) bs
    (record { mode = mode; held = held; bytes = bytes; escapes = by }) used said
    → Reads (reader_for c) bs (next c mode held bytes) used said
told c bs {mode = mode} {held = held} {used = used} {bytes = bytes} {said = said} size m e lent =
    lent_is_read (reader_for c) bs (next c mode held bytes) used said size (rw (e, m) at lent)

-- a verdict other than 12 is a sound reader's
passed : (c : CReader) (bs : List ℕ) (reader : Reader) {used : ℕ} {said : Option Verdict} {v : Verdict}
    → mode_ok c.mode c.digit ≡ true → Reads (reader_for c) bs reader used said → v ≡ numbers_said said
    → (v.number ≡ 12 → ⊥)
    → sound_c c ≡ true
passed c bs reader {used = used} {said = said} k w e z =
    a_mode c k ∙ not_twelve (reader_for c) bs reader used said w (λ h. z (ap (λ (v : Verdict). v.number) e ∙ h))

-- 12 is another's, and the frame's bytes stay
refused : (c : CReader) (bs : List ℕ) (reader : Reader) {used : ℕ} {said : Option Verdict} {v : Verdict} {s : CSaid}
    → length c.bytes ≡ longest + 3 → mode_ok c.mode c.digit ≡ true → Reads (reader_for c) bs reader used said
    → v ≡ numbers_said said → v.number ≡ 12
    → s ≡ refused_as 12
    → CScans c bs s (with_bytes c reader.bytes)
refused c bs reader {used = used} {said = said} size k w e z s =
    let r = reader_for c in
    let h = twelve r bs reader used said w (ap (λ (v : Verdict). v.number) (sym e) ∙ z) in
    rw (s, twelve_stays r bs reader used said w h) (scans_refused c bs size (a_mode c k ∙ h))

-- the frame stays as long as it was
sized : (c : CReader) (bs : List ℕ) (reader : Reader) {used : ℕ} {said : Option Verdict} → length c.bytes ≡ longest + 3
    → Reads (reader_for c) bs reader used said
    → length reader.bytes ≡ longest + 3
unfolding Whole
sized c bs reader size w =
    ap (λ (r : Reader). length r.bytes) w.gives.next ∙ whole_read (reader_for c) bs size

-- a sound reader holds few bytes
few : (c : CReader) (bs : List ℕ) (reader : Reader) {used : ℕ} {said : Option Verdict} → sound_c c ≡ true
    → Reads (reader_for c) bs reader used said
    → reader.held ≤ 65535
few c bs reader {said = said} h w = (took_fits (reader_for c) bs reader said (c_sound c h) w.gives).0

pub returns-then-not-mode_ok : goal.returns-then-not-mode_ok
returns-then-not-mode_ok c =
    let s = c.args.self.now in
    let size : length s.bytes ≡ longest + 3 = omega arith in
    rw c.refused.ensures
    (scans_refused s c.args.bytes.now size (no_mode s (sym c.mode_ok.ensures ∙ c.if-not-mode_ok.true)))

pub returns-then-verdict-eq12 : goal.returns-then-verdict-eq12
returns-then-verdict-eq12 c =
    let s = c.args.self.now in
    let bs = c.args.bytes.now in
    let size : length s.bytes ≡ longest + 3 = omega arith in
    let scan = c.scan-scanned in
    refused s bs (next s scan.result.mode scan.result.held scan.new.frame) size
    (sym c.mode_ok.ensures ∙ c.if-not-mode_ok.false)
    (told s bs size c.mode-from.ensures c.escapes_for-by.ensures scan.ensures)
    c.numbers-verdict.ensures c.if-verdict-eq12.true c.refused-then-verdict-eq12.ensures

pub overflow_cast-self-2 : goal.overflow_cast-self-2
overflow_cast-self-2 c =
    let s = c.args.self.now in
    let bs = c.args.bytes.now in
    let size : length s.bytes ≡ longest + 3 = omega arith in
    let scan = c.scan-scanned in
    let reader = next s scan.result.mode scan.result.held scan.new.frame in
    let w = told s bs size c.mode-from.ensures c.escapes_for-by.ensures scan.ensures in
    let h = passed s bs reader (sym c.mode_ok.ensures ∙ c.if-not-mode_ok.false) w c.numbers-verdict.ensures
    c.if-verdict-eq12.false
    in
    record { fits = omega (arith, few s bs reader h w) }

pub returns : goal.returns
returns c =
    let s = c.args.self.now in
    let bs = c.args.bytes.now in
    let size : length s.bytes ≡ longest + 3 = omega arith in
    let scan = c.scan-scanned in
    let reader = next s scan.result.mode scan.result.held scan.new.frame in
    let w = told s bs size c.mode-from.ensures c.escapes_for-by.ensures scan.ensures in
    let h = passed s bs reader (sym c.mode_ok.ensures ∙ c.if-not-mode_ok.false) w c.numbers-verdict.ensures
    c.if-verdict-eq12.false
    in
    rw (c.numbers-verdict.ensures, c.set_mode.ensures)
    (scans_sound s bs reader scan.result.used scan.result.said h (sized s bs reader size w) w)
