-- The readers met from a fresh one are the sound ones, so that 12 is never given; and a read uses the fewest bytes that
-- give the stream one verdict more, or all. Assumes nothing.
use Prim.Native.Nat.{ℕ, ◌<◌}
use native.Mathlib.Omega.{arith}
use mathlib.Core.Path.{◌≡◌, refl, sym, ap, ◌∙◌, subst}
use mathlib.Core.Bool.{Bool, true, false}
use mathlib.Core.List.{List, [], ◌∷◌, ◌++◌, append_assoc, append-nil, append_cancel_left, cons≢nil}
use lib.Dec.{ltb}
use lib.ListN.{take, drop, take-append-drop}
use lib.Seq.{take-length}
use borrow.Author.Tests.{ltb-true, ltb-false}
use Rattle.standard.specs.declared.Framing.{Framing}
use Rattle.standard.specs.declared.Escapes.{Escapes}
use Rattle.standard.specs.Judge.{Handed}
use Rattle.standard.specs.Stream.{handed_of}
use Rattle.standard.proofs.Framings.{Bytes}
use Rattle.standard.proofs.Refusals.{of_the_stream}
use Rattle.reader.specs.declared.Mode.TheVariants.{Skipping}
use Rattle.reader.specs.declared.Reader.{Reader}
use Rattle.reader.specs.Step.{State, framing_of, is_open}
use Rattle.reader.specs.Read.{scan_of, state_of, sound_reader, fresh_reader, Given, read_of}
use Rattle.reader.specs.Calls.{Reached, fresh, read, stream_to, Meets, Uses}
use Rattle.reader.proofs.State.Soundness.{reader_fits}
use Rattle.reader.proofs.State.Arrays.{read_sound, state_read, sound_read, Whole, whole_fresh, whole_read}
use Rattle.reader.proofs.State.Arrays.{rule_stays}
use Rattle.reader.proofs.State.Handing.{sound_verdict}
use Rattle.reader.proofs.Stream.Parts.{run, after, run_append, run_parts}
use Rattle.reader.proofs.Stream.Scans.{Scanned, scanned}
use Rattle.reader.proofs.Stream.Leads.{Leads, leads, lead_on}

-- a reader is met with its array whole, sound, and as far in the stream, by its rule, as it has used it
pub record Met (f : Framing) (stream : List ℕ) (r : Reader) : Type 0 where
  pub whole : Whole r
  pub sound : sound_reader r ≡ true
  pub goes_on : (more : List ℕ)
      → handed_of r.escapes f (stream ++ more) ≡ handed_of r.escapes f stream ++ run r.escapes (state_of r) more

met_read : (f : Framing) (stream bs : List ℕ) (r : Reader) → Met f stream r
    → Met f (stream ++ take (read_of r bs).used bs) (read_of r bs).reader
met_read f stream bs r m = record {
  whole = whole_read r bs m.whole;
  sound = sound_read r bs m.sound;
  goes_on = rw (rule_stays r bs) goes_on;
}
  where
    goes_on : (more : List ℕ) → handed_of r.escapes f (stream ++ take (read_of r bs).used bs ++ more)
        ≡ handed_of r.escapes f (stream ++ take (read_of r bs).used bs)
        ++ run r.escapes (state_of (read_of r bs).reader) more
    goes_on more =
        let rule = r.escapes in
        let s = state_of r in
        let first = take (scan_of rule s bs).used bs in
        rw (state_read r bs m.sound, read_sound r bs m.sound, append_assoc stream first more)
        (m.goes_on (first ++ more)
        ∙ ap (λ l. handed_of rule f stream ++ l) (run_append rule s first more ∙ rw (scanned rule s bs).goes_to)
        ∙ sym (append_assoc (handed_of rule f stream) (run rule s first) (run rule (scan_of rule s bs).next more))
        ∙ ap (λ l. l ++ run rule (scan_of rule s bs).next more) (sym (m.goes_on first)))

-- every reader reached
pub met : {rule : Escapes} {f : Framing} {stream : List ℕ} {r : Reader} → Reached rule f stream r → Met f stream r
met {rule} {f} fresh = record {
  whole = whole_fresh rule f;
  sound = refl;
  goes_on = λ more. sym (run_parts rule f [] more (tt, refl));
}
met {rule} {f} (read {stream} {r} bs m) = met_read f stream bs r (met m)

-- has the rule that it was made with
pub met_rule : {rule : Escapes} {f : Framing} {stream : List ℕ} {r : Reader} → Reached rule f stream r
    → r.escapes ≡ rule
met_rule fresh = refl
met_rule (read {stream} {r} bs m) = rule_stays r bs ∙ met_rule m

-- is sound
pub met_sound : {rule : Escapes} {f : Framing} {stream : List ℕ} {r : Reader} → Reached rule f stream r
    → sound_reader r ≡ true
met_sound m = (met m).sound

-- and never gives 12
pub met_verdict : {rule : Escapes} {f : Framing} {stream : List ℕ} {r : Reader} → Reached rule f stream r
    → (bs : List ℕ) (h : Handed) (hs : List Handed)
    → (read_of r bs).said ≡ h ∷ hs → of_the_stream rule h.verdict ≡ true
met_verdict {rule} {f} {stream} {r} m bs h hs e = rw (met_rule m) at (sound_verdict r bs h hs (met m).sound e)

-- ---- the used-byte rule

-- of a sound reader from which a stream goes on
uses_by : (f : Framing) (stream : List ℕ) (r : Reader) → sound_reader r ≡ true
    → ((more : List ℕ)
    → handed_of r.escapes f (stream ++ more) ≡ handed_of r.escapes f stream ++ run r.escapes (state_of r) more)
    → (bs : List ℕ) → Uses r.escapes f stream bs (read_of r bs).used (read_of r bs).said
uses_by f stream r h goes_on bs =
    let rule = r.escapes in
    let s = state_of r in
    let w : Scanned rule s bs (scan_of rule s bs) = scanned rule s bs in
    let before = handed_of rule f stream in
    rw (read_sound r bs h)
    (record {
      within = w.within;
      verdict = goes_on (take (scan_of rule s bs).used bs) ∙ ap (λ l. before ++ l) w.here;
      none_sooner = λ k l. goes_on (take k bs) ∙ ap (λ l. before ++ l) (w.none_sooner k l) ∙ append-nil before;
      or_all = w.or_all;
    })

-- A READER THAT IS MET uses the fewest bytes that give the stream one verdict more, or all
pub used_rule : {rule : Escapes} {f : Framing} {stream : List ℕ} {r : Reader} → Reached rule f stream r → (bs : List ℕ)
    → Uses rule f stream bs (read_of r bs).used (read_of r bs).said
used_rule {rule} {f} {stream} {r} m bs =
    subst (λ x. Uses x f stream bs (read_of r bs).used (read_of r bs).said) (met_rule m)
    (uses_by f stream r (met m).sound (met m).goes_on bs)

-- EVERY SOUND READER too, met or not: by the stream that leads to it
pub sound_used : (r : Reader) (bs : List ℕ) → sound_reader r ≡ true → Bytes (state_of r).held
    → Uses r.escapes (framing_of r.mode) (stream_to r) bs (read_of r bs).used (read_of r bs).said
sound_used r bs h b =
    let rule = r.escapes in
    let f = framing_of r.mode in
    let k = reader_fits r h in
    let on = lead_on rule r.mode (state_of r).held b k in
    let silent : handed_of rule f (stream_to r) ≡ [] = ap (handed_of rule f) (sym (append-nil (stream_to r))) ∙ on [] in
    uses_by f (stream_to r) r h (λ more. on more ∙ ap (λ l. l ++ run rule (state_of r) more) (sym silent)) bs

-- ---- sound is what a stream leads to

empty_front : (a b : List Handed) → a ++ b ≡ [] → a ≡ []
empty_front [] b e = refl
empty_front (h ∷ a) b e = absurd (cons≢nil e)

module _ (rule : Escapes) (f : Framing) (bs : List ℕ) (s : State)
    (w : Leads rule (record { mode = Skipping f; held = [] }) bs s) where
  abbrev from : State
  from = record { mode = Skipping f; held = [] }

  nothing_said : (scan_of rule from bs).said ≡ []
  nothing_said =
      let used = (scan_of rule from bs).used in
      let front = take used bs in
      sym (scanned rule from bs).here
      ∙ empty_front (run rule from front) (run rule (after rule from front) (drop used bs))
      (sym (run_append rule from front (drop used bs)) ∙ ap (run rule from) (take-append-drop used bs) ∙ w.silent)

  all_used : take (scan_of rule from bs).used bs ≡ bs
  all_used = ap (λ n. take n bs) ((scanned rule from bs).or_all nothing_said) ∙ take-length bs

  meets : Meets rule f bs s
  meets =
      let r = fresh_reader rule f in
      let all = ap (λ (a : Given). take a.used bs) (read_sound r bs refl) ∙ all_used in
      record {
        reader = (read_of r bs).reader;
        reached = subst (λ l. Reached rule f l (read_of r bs).reader) all (read bs fresh);
        same = state_read r bs refl ∙ sym (scanned rule from bs).goes_to ∙ ap (after rule from) all_used ∙ w.there;
      }

-- EVERY SOUND READER IN A FRAME IS MET, but for the bytes of its array that it does not hold; that each reader met is
-- sound is `met_sound`
pub sound_met : (r : Reader) → sound_reader r ≡ true → is_open r.mode ≡ true → Bytes (state_of r).held
    → Meets r.escapes (framing_of r.mode) (stream_to r) (state_of r)
sound_met r h o b =
    meets r.escapes (framing_of r.mode) (stream_to r) (state_of r)
    (leads r.escapes r.mode (state_of r).held o b (reader_fits r h))

-- ---- the rule settles the number and the verdict

module _ (rule : Escapes) (f : Framing) (stream bs : List ℕ) where
  not_sooner : (u v : ℕ) (x y : List Handed) → Uses rule f stream bs u x → Uses rule f stream bs v y → u < v → ⊥
  not_sooner u v x y p q h =
      let before = handed_of rule f stream in
      let same : before ++ [] ≡ before ++ x = append-nil before ∙ sym (q.none_sooner u h) ∙ p.verdict in
      let none_said : x ≡ [] = sym (append_cancel_left before [] x same) in
      omega (arith, p.or_all none_said, q.within)

  equal : (u v : ℕ) → (u < v → ⊥) → (v < u → ⊥) → (s : Bool) → ltb u v ≡ s → (t : Bool) → ltb v u ≡ t → u ≡ v
  equal u v a b true e t k = absurd (a (ltb-true u v e))
  equal u v a b false e true k = absurd (b (ltb-true v u k))
  equal u v a b false e false k = omega (arith, ltb-false)

  -- two answers that meet the rule are equal
  pub used_unique : (u v : ℕ) (x y : List Handed) → Uses rule f stream bs u x → Uses rule f stream bs v y
      → (u ≡ v) × (x ≡ y)
  used_unique u v x y p q =
      let e : u ≡ v = equal u v (not_sooner u v x y p q) (not_sooner v u y x q p) (ltb u v) refl (ltb v u) refl in (
        e,
        append_cancel_left (handed_of rule f stream) x y
            (sym p.verdict ∙ ap (λ n. handed_of rule f (stream ++ take n bs)) e ∙ q.verdict),
      )

-- so every sound reader's read is the one answer that meets it
pub sound_used_unique : (r : Reader) (bs : List ℕ) (used : ℕ) (said : List Handed) → sound_reader r ≡ true
    → Bytes (state_of r).held → Uses r.escapes (framing_of r.mode) (stream_to r) bs used said
    → (used ≡ (read_of r bs).used) × (said ≡ (read_of r bs).said)
sound_used_unique r bs used said h b p =
    used_unique r.escapes (framing_of r.mode) (stream_to r) bs used (read_of r bs).used said (read_of r bs).said p
    (sound_used r bs h b)
