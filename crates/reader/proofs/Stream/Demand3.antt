-- DEMAND 3 for verdicts, type bytes and messages: however a stream is cut into reads, a fresh reader hands out what the
-- parts of the uncut stream do, each judged from its whole bytes. One proof for both framings and both rules of
-- escapes. Assumes nothing.
use Prim.Native.Nat.{ℕ, zero, suc, ◌+◌, ◌-◌, ◌≤◌}
use native.Mathlib.Omega.{arith}
use mathlib.Core.Path.{◌≡◌, refl, sym, ap, ◌∙◌}
use mathlib.Core.Bool.{true, false}
use mathlib.Core.List.{List, [], ◌∷◌, ◌++◌, append_assoc}
use lib.ListN.{length, take, drop, length-append, length-drop, take-append-drop}
use Rattle.standard.specs.declared.Framing.{Framing}
use Rattle.standard.specs.declared.Escapes.{Escapes}
use Rattle.standard.specs.declared.Escapes.TheVariants.{Strict, Lenient}
use Rattle.standard.specs.Messages.{among, check_of}
use Rattle.standard.specs.Framing.{start_of, frame_of}
use Rattle.standard.specs.Judge.{Handed, decided, handing, judge}
use Rattle.standard.specs.Stream.{handed_of, stream_needed}
use Rattle.standard.proofs.Framings.{Bytes}
use Rattle.standard.proofs.Decided.{handed_amid_part}
use Rattle.standard.proofs.Stream.{handed_amid}
use Rattle.standard.proofs.Strict.{handed_alike}
use Rattle.reader.specs.declared.Reader.{Reader}
use Rattle.reader.specs.Step.{framing_of}
use Rattle.reader.specs.Read.{Read, scan_of, state_of, sound_reader, fresh_reader, read_of}
use Rattle.reader.specs.Calls.{joined, handed_before, calls_of, drive, Calls, finished, call, stream_to}
use Rattle.reader.proofs.State.Soundness.{reader_fits}
use Rattle.reader.proofs.State.Arrays.{read_sound, state_read, sound_read, rule_stays}
use Rattle.reader.proofs.Stream.Parts.{run, run_append, run_parts}
use Rattle.reader.proofs.Stream.Scans.{Scanned, scanned}
use Rattle.reader.proofs.Stream.Leads.{lead_on}

-- ---- one call

module _ (r : Reader) (bs : List ℕ) (h : sound_reader r ≡ true) where
  abbrev scan : Read
  scan = scan_of r.escapes (state_of r) bs

  -- what a call hands out, then what is left and whatever follows
  one_call : (rest : List ℕ)
      → run r.escapes (state_of r) (bs ++ rest)
      ≡ (read_of r bs).said ++ run r.escapes (state_of (read_of r bs).reader) (drop (read_of r bs).used bs ++ rest)
  one_call rest =
      let s = state_of r in
      let first = take scan.used bs in
      let left = drop scan.used bs in
      let w : Scanned r.escapes s bs scan = scanned r.escapes s bs in
      rw (state_read r bs h, read_sound r bs h)
      (ap (λ l. run r.escapes s (l ++ rest)) (sym (take-append-drop scan.used bs))
      ∙ ap (run r.escapes s) (append_assoc first left rest)
      ∙ run_append r.escapes s first (left ++ rest)
      ∙ rw (w.here, w.goes_to))

  -- a call that used no byte had none
  used_none : (read_of r bs).used ≡ 0 → length bs ≡ 0
  used_none e =
      let w : Scanned r.escapes (state_of r) bs scan = scanned r.escapes (state_of r) bs in
      let z : scan.used ≡ 0 = rw (read_sound r bs h) at e in
      sym (w.or_all (sym (rw z at w.here))) ∙ z

-- ---- every caller

calls_run : {r : Reader} {reads : List (List ℕ)} {hs : List Handed} → Calls r reads hs → sound_reader r ≡ true
    → hs ≡ run r.escapes (state_of r) (joined reads)
calls_run finished h = refl
calls_run (call {r} {bs} {reads} {again} {hs} e c) h =
    ap (λ l. (read_of r bs).said ++ l)
    (rw (rule_stays r bs) at (calls_run c (sound_read r bs h))
    ∙ ap (run r.escapes (state_of (read_of r bs).reader)) e)
    ∙ sym (one_call r bs h (joined reads))

-- from every sound reader: what the stream that leads to it and the reads hand out together
pub sound_caller : (r : Reader) {reads : List (List ℕ)} {hs : List Handed} → sound_reader r ≡ true
    → Bytes (state_of r).held → Calls r reads hs
    → hs ≡ handed_of r.escapes (framing_of r.mode) (stream_to r ++ joined reads)
sound_caller r {reads} h b c =
    calls_run c h ∙ sym (lead_on r.escapes r.mode (state_of r).held b (reader_fits r h) (joined reads))

-- cut again as it likes
pub any_caller : (rule : Escapes) (f : Framing) {reads : List (List ℕ)} {hs : List Handed}
    → Calls (fresh_reader rule f) reads hs
    → hs ≡ handed_of rule f (joined reads)
any_caller rule f {reads} c = calls_run c refl ∙ run_parts rule f [] (joined reads) (tt, refl)

-- ---- the caller that hands in what is left, then the next read

joined_before : (left : List ℕ) (reads : List (List ℕ)) → joined (handed_before left reads) ≡ left ++ joined reads
joined_before [] reads = refl
joined_before (b ∷ left) reads = refl

-- calls enough for the bytes and the reads that are left
abbrev Enough : ℕ → List (List ℕ) → Type 0
Enough n reads = length (joined reads) + length reads ≤ n

enough_left : (n used : ℕ) (bs left : List ℕ) (reads : List (List ℕ)) → length left ≡ length bs - used
    → (used ≡ 0 → length bs ≡ 0)
    → Enough (suc n) (bs ∷ reads) → Enough n (handed_before left reads)
enough_left n used bs [] reads e z k = omega (arith, length-append bs (joined reads))
enough_left n zero bs (b ∷ left) reads e z k = absurd (omega (arith, z refl))
enough_left n (suc used) bs (b ∷ left) reads e z k =
    omega (arith, length-append bs (joined reads), length-append left (joined reads))

calls_made : (n : ℕ) (r : Reader) (reads : List (List ℕ)) → sound_reader r ≡ true → Enough n reads
    → Calls r reads (calls_of n r reads)
unfolding calls_of
calls_made zero r [] h k = finished
calls_made zero r (bs ∷ reads) h k = absurd (omega arith)
calls_made (suc n) r [] h k = finished
calls_made (suc n) r (bs ∷ reads) h k =
    let used = (read_of r bs).used in
    let left = drop used bs in
    call (joined_before left reads)
    (calls_made n (read_of r bs).reader (handed_before left reads) (sound_read r bs h)
    (enough_left n used bs left reads (length-drop used bs) (used_none r bs h) k))

-- HOWEVER THE STREAM IS CUT INTO READS
pub reads_are_parts : (rule : Escapes) (f : Framing) (reads : List (List ℕ))
    → drive (fresh_reader rule f) reads ≡ handed_of rule f (joined reads)
unfolding drive
reads_are_parts rule f reads =
    any_caller rule f (calls_made (length (joined reads) + length reads) (fresh_reader rule f) reads refl (omega arith))

-- so only the bytes count, and not the cuts
pub cuts : (rule : Escapes) (f : Framing) (reads others : List (List ℕ)) → joined reads ≡ joined others
    → drive (fresh_reader rule f) reads ≡ drive (fresh_reader rule f) others
cuts rule f reads others e = reads_are_parts rule f reads ∙ ap (handed_of rule f) e ∙ sym (reads_are_parts rule f others)

-- STRICTNESS COSTS NOBODY: where every escape of the stream was needed, a strict reader hands out what one of the old
-- rule does
pub strict_alike : (f : Framing) (reads : List (List ℕ)) → stream_needed f (joined reads) ≡ true
    → drive (fresh_reader Strict f) reads ≡ drive (fresh_reader Lenient f) reads
strict_alike f reads h =
    reads_are_parts Strict f reads ∙ handed_alike f (joined reads) h ∙ sym (reads_are_parts Lenient f reads)

-- ---- an intact part is reported after all kinds of noise, and whatever follows it

-- every part that is decided: a start byte, and bytes with no start among them of which the whole judgement is h.
-- From every sound reader, by any caller: what the reader held is noise before it too
pub intact_sound : (r : Reader) (p part q : List ℕ) (h : Handed) {reads : List (List ℕ)} {hs : List Handed}
    → sound_reader r ≡ true → Bytes (state_of r).held
    → among (start_of (framing_of r.mode)) part ≡ false
    → judge r.escapes (framing_of r.mode) (start_of (framing_of r.mode) ∷ part) ≡ decided h
    → joined reads ≡ p ++ (start_of (framing_of r.mode) ∷ part ++ q) → Calls r reads hs
    → hs
    ≡ handed_of r.escapes (framing_of r.mode) (stream_to r ++ p ++ (start_of (framing_of r.mode) ∷ []))
    ++ (h ∷ handed_of r.escapes (framing_of r.mode) q)
intact_sound r p part q h s b clear d e c =
    let rule = r.escapes in
    let f = framing_of r.mode in
    sound_caller r s b c
    ∙ ap (λ l. handed_of rule f (stream_to r ++ l)) e
    ∙ ap (handed_of rule f) (sym (append_assoc (stream_to r) p (start_of f ∷ part ++ q)))
    ∙ handed_amid_part rule f (stream_to r ++ p) part q h clear d

-- from a fresh one
pub intact_calls : (rule : Escapes) (f : Framing) (p part q : List ℕ)
    (h : Handed) {reads : List (List ℕ)} {hs : List Handed}
    → among (start_of f) part ≡ false → judge rule f (start_of f ∷ part) ≡ decided h
    → joined reads ≡ p ++ (start_of f ∷ part ++ q)
    → Calls (fresh_reader rule f) reads hs → hs ≡ handed_of rule f (p ++ (start_of f ∷ [])) ++ (h ∷ handed_of rule f q)
intact_calls rule f p part q h clear d e c =
    any_caller rule f c ∙ ap (handed_of rule f) e ∙ handed_amid_part rule f p part q h clear d

-- and by the caller that hands in what is left, then the next read
pub intact_part : (rule : Escapes) (f : Framing) (p part q : List ℕ) (h : Handed) (reads : List (List ℕ))
    → among (start_of f) part ≡ false → judge rule f (start_of f ∷ part) ≡ decided h
    → joined reads ≡ p ++ (start_of f ∷ part ++ q)
    → drive (fresh_reader rule f) reads ≡ handed_of rule f (p ++ (start_of f ∷ [])) ++ (h ∷ handed_of rule f q)
intact_part rule f p part q h reads clear d e =
    reads_are_parts rule f reads ∙ ap (handed_of rule f) e ∙ handed_amid_part rule f p part q h clear d

-- the written frame of a good message among them
pub intact : (rule : Escapes) (f : Framing) (p m q : List ℕ) (reads : List (List ℕ)) → check_of m ≡ 0 → Bytes m
    → joined reads ≡ p ++ (frame_of f m ++ q)
    → drive (fresh_reader rule f) reads ≡ handed_of rule f (p ++ (start_of f ∷ [])) ++ (handing 0 m ∷ handed_of rule f q)
intact rule f p m q reads h b e = reads_are_parts rule f reads ∙ ap (handed_of rule f) e ∙ handed_amid rule f p m q h b
