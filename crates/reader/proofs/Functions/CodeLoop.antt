-- The loop of `read`: what a decision does to the reader is the read of its byte, and the read goes on from there.
-- Assumes nothing.
use Prim.Native.Nat.{ℕ, zero, suc, ◌+◌, ◌-◌, ◌≤◌, ◌<◌}
use native.Mathlib.Nat.{zero-add, add-zero}
use native.Mathlib.Numerals.{add-one}
use native.Mathlib.Omega.{arith}
use mathlib.Core.Path.{◌≡◌, refl, sym, ap, subst⁻¹, ◌∙◌}
use mathlib.Core.Logic.{◌⊎◌, inl, inr}
use mathlib.Core.Bool.{true, false, cond}
use mathlib.Core.List.{List, [], ◌∷◌, ◌++◌, map}
use lib.Dec.{eqb}
use lib.ListN.{length, get_or, take, drop, set, length-append, length-take, length-drop, take-append-drop}
use lib.ListN.{drop_of_length-le}
use lib.Seq.{length-take-le, drop-cons, drop-drop, append_snoc, set_split}
use borrow.Author.Tests.{eqb-false}
use Rattle.standard.specs.declared.Framing.{Framing}
use Rattle.standard.specs.declared.Framing.TheVariants.{Binary, Ascii}
use Rattle.std.specs.Prelude.{Option}
use Rattle.standard.specs.declared.Verdict.{Verdict}
use Rattle.std.specs.Prelude.{Some, None}
use Rattle.standard.specs.Words.{laid}
use Rattle.standard.specs.Messages.{longest, length_ok}
use Rattle.standard.specs.Framing.{start_of}
use Rattle.standard.specs.Judge.{Handed, handing, verdict_for, verdicts_in, handed_in}
use Rattle.standard.specs.Stream.{up_to_start}
use Rattle.frames.specs.declared.Taken.{Taken}
use Rattle.frames.specs.Plain.{plain_of, span, beyond, length_of, growth}
use Rattle.frames.specs.Judging.{judged_frame, judged_of, said_of}
use Rattle.frames.specs.Parts.{Complete}
use Rattle.frames.proofs.Plainly.{span_none, laid_none, Grew, grew, within}
use Rattle.frames.proofs.Skips.{up_to_within}
use Rattle.frames.proofs.Judges.{judged_whole}
use Rattle.reader.specs.declared.Mode.{Mode}
use Rattle.reader.specs.declared.Mode.TheVariants.{Skipping, Open, Escape, Digit}
use Rattle.reader.specs.declared.Outcome.{Outcome}
use Rattle.reader.specs.declared.Outcome.TheVariants.{Nothing, Number, Judgement}
use Rattle.reader.specs.declared.Decision.{Decision}
use Rattle.reader.specs.declared.Reader.{Reader}
use Rattle.reader.specs.Step.{Step, beyond_length, goes, step_of}
use Rattle.reader.specs.Read.{read_on, scan_of, state_of, sound_reader, reader_after, Given, not_sound, read_from}
use Rattle.reader.specs.Read.{read_of, then_read, Gives, Reads, lent_read, Lent}
use Rattle.reader.specs.Decide.{step_in, kept_by, held_by, said_by, Bound, Done, skipped_in, TakesIn}
use Rattle.reader.proofs.State.Soundness.{Few, Fits, reader_fits, few_held, sound_held}
use Rattle.reader.proofs.Part.Frames.{length_snoc, by_test, whole_front}
use Rattle.reader.proofs.State.Kept.{Quiet, keeps_step}
use Rattle.reader.proofs.State.Arrays.{laid_front, length_laid, sound_with_lem, again, lent_read_lem, lent_none}
use Rattle.reader.proofs.State.Arrays.{read_sound}
use Rattle.reader.proofs.State.Arrays.{read_unsound, sound_read, Whole, whole_read, reader_with, read_none}
use Rattle.reader.proofs.State.Arrays.{read_steps}
use Rattle.reader.proofs.State.Handing.{handed_from_verdict}
use Rattle.reader.proofs.Functions.CodeSteps.{all_held, no_start}
use Rattle.reader.proofs.Functions.CodePlain.{used_more, in_frame, plain_run}

-- ---- the array

-- the first byte, if one is held
pub first_held : (bytes : List ℕ) (n : ℕ) → get_or (take n bytes) 0 (get_or bytes 0 0) ≡ get_or bytes 0 0
first_held bytes zero = refl
first_held [] (suc n) = refl
first_held (b ∷ bytes) (suc n) = refl

-- a byte kept after those held is stored at their number
abbrev pub stored : Option ℕ → ℕ → List ℕ → List ℕ
stored None n bytes = bytes
stored (Some x) n bytes = set bytes n x

module _ (bytes : List ℕ) (n : ℕ) (few : n ≤ length bytes) where
  laid_kept : (keep : Option ℕ) → ((x : ℕ) → keep ≡ Some x → n < length bytes)
      → laid bytes 0 (kept_by keep (take n bytes)) ≡ stored keep n bytes
  laid_kept (Some x) room =
      let h = room x refl in
      laid_front bytes (take n bytes ++ (x ∷ []))
      ∙ rw (length_snoc (take n bytes) x, length-take-le n bytes few, append_snoc (take n bytes) x (drop (suc n) bytes))
      (sym (set_split bytes n x h))
  laid_kept None room = laid_front bytes (take n bytes) ∙ rw (length-take-le n bytes few) (take-append-drop n bytes)

  -- after a byte that says nothing, what is held lies over it
  laid_held : (keep : Option ℕ) (m : ℕ) → ((x : ℕ) → keep ≡ Some x → n < length bytes)
      → Bound Nothing keep m (kept_by keep (take n bytes))
      → laid bytes 0 (cond (eqb m 0) [] (kept_by keep (take n bytes))) ≡ stored keep n bytes
  laid_held (Some x) m room e = rw (all_held (take n bytes ++ (x ∷ [])) m (sym e)) (laid_kept (Some x) room)
  laid_held None m room e =
      by_test (λ l. laid bytes 0 l ≡ bytes) (eqb m 0) [] (take n bytes) (λ t. refl) (λ t. laid_kept None room)

-- ---- a frame that is judged

-- its length was held, and is one that is read
known_length : (held : List ℕ) (beyond : ℕ) → Few beyond held → (keep : Option ℕ)
    → get_or (kept_by keep held) 0 0 + 3 ≤ length (kept_by keep held)
    → length_ok (get_or (kept_by keep held) 0 0) ≡ true
known_length [] beyond f None h = absurd (omega arith)
known_length [] beyond f (Some x) h = absurd (omega arith)
known_length (L ∷ rest) beyond f None h = f.0
known_length (L ∷ rest) beyond f (Some x) h = f.0

-- what stands after it in the array does not count
complete_front : (frame more : List ℕ) → length_ok (get_or frame 0 0) ≡ true → get_or frame 0 0 + 3 ≤ length frame
    → Complete (frame ++ more)
complete_front [] more k h = absurd (omega arith)
complete_front (L ∷ rest) more k h = record { known = k; all = omega (arith, length-append rest more) }

judged_front : (frame more : List ℕ) → get_or frame 0 0 + 3 ≤ length frame → judged_of (frame ++ more) ≡ judged_of frame
judged_front [] more h = absurd (omega arith)
judged_front (L ∷ rest) more h = whole_front [] L rest more (omega arith)

-- ---- a turn of the loop

-- the whole read is what is left of it, with i bytes used
abbrev pub Left : Reader → List ℕ → ℕ → Reader → Type 0
Left r bs i now =
    let later = read_of now (drop i bs) in
    read_of r bs ≡ record { reader = later.reader; used = i + later.used; said = later.said }

-- the reader so far
pub record SoFar (r : Reader) (bs : List ℕ) (i : ℕ) (now : Reader) : Type 0 where
  pub within : i ≤ length bs
  pub sound : sound_reader now ≡ true
  pub size : Whole now
  pub left : Left r bs i now

-- and what is decided of the byte at hand
pub record Turn (r : Reader) (bs : List ℕ) (i : ℕ) (now : Reader) (d : Decision) : Type 0 where
  pub so_far : SoFar r bs i now
  pub inside : i < length bs
  pub done : Done d (take now.held now.bytes)
      (step_in now.escapes now.mode (get_or bs i 0) (take now.held now.bytes))

-- the array after it, and the reader
abbrev pub stored_by : Decision → Reader → List ℕ
stored_by d now = stored d.keep now.held now.bytes

abbrev pub reader_by : Decision → Reader → Reader
reader_by d now = record { mode = d.mode; held = d.held; bytes = stored_by d now; escapes = now.escapes }

module _ {r : Reader} {bs : List ℕ} {i : ℕ} {now : Reader} {d : Decision} (t : Turn r bs i now d) where
  abbrev b : ℕ
  b = get_or bs i 0

  -- the frame's bytes after it, and what is said
  abbrev frame : List ℕ
  frame = kept_by d.keep (take now.held now.bytes)

  abbrev said : List Handed
  said = said_by d.outcome frame

  few : now.held ≤ length now.bytes
  unfolding Whole
  few = omega (arith, sound_held now t.so_far.sound, t.so_far.size)

  -- there is room for a byte that is kept
  pub room : (x : ℕ) → d.keep ≡ Some x → now.held < length now.bytes
  unfolding Whole
  room x e =
      let s = step_of now.escapes (state_of now) b in
      let all : length s.kept ≤ longest + 3 =
      (keeps_step now.escapes (state_of now) b).0.few (reader_fits now t.so_far.sound) in
      let more : s.kept ≡ take now.held now.bytes ++ (x ∷ []) = rw e at t.done.kept in
      let n : length (take now.held now.bytes) ≡ now.held = length-take-le now.held now.bytes few in
      omega (arith, ap length more, length_snoc (take now.held now.bytes) x, t.so_far.size)

  -- the frame's bytes begin the array
  begins : stored_by d now ≡ frame ++ drop (length frame) now.bytes
  begins = sym (laid_kept now.bytes now.held few d.keep room) ∙ laid_front now.bytes frame

  sums_held : d.outcome ≡ Judgement → get_or frame 0 0 + 3 ≤ length frame
  sums_held e = rw e at t.done.bound

  complete : d.outcome ≡ Judgement → Complete (stored_by d now)
  complete e =
      let h = sums_held e in
      rw begins
      (complete_front frame (drop (length frame) now.bytes)
      (known_length (take now.held now.bytes) (beyond_length now.mode) (reader_fits now t.so_far.sound).0
      d.keep h) h)

  -- the answer to the one byte, by what it comes to
  by_outcome : (o : Outcome) (s : Step) → Bound o d.keep d.held frame
      → s.next ≡ record { mode = d.mode; held = held_by d (take now.held now.bytes) }
      → s.said ≡ said_by o frame → s.kept ≡ frame
      → read_from now
      (read_on s.said s (scan_of now.escapes s.next []))
      ≡ record { reader = reader_by d now; used = 1; said = said_by o frame }
  unfolding scan_of
  by_outcome Nothing s w n h k =
      rw (h, n, laid_held now.bytes now.held few d.keep d.held room w, ← t.done.count)
  by_outcome (Number number) s w n h k =
      rw (h, n, k, laid_kept now.bytes now.held few d.keep room, ← t.done.count)
  by_outcome Judgement s w n h k =
      rw (h, n, k, laid_kept now.bytes now.held few d.keep room, ← t.done.count)

  one_byte : read_of now (b ∷ []) ≡ record { reader = reader_by d now; used = 1; said = said }
  unfolding scan_of
  one_byte =
      read_sound now (b ∷ []) t.so_far.sound
      ∙ by_outcome d.outcome (step_of now.escapes (state_of now) b) t.done.bound t.done.next t.done.said
      t.done.kept

  sound_after : sound_reader (reader_by d now) ≡ true
  sound_after = rw one_byte at (sound_read now (b ∷ []) t.so_far.sound)

  pub whole_after : Whole (reader_by d now)
  whole_after = rw one_byte at (whole_read now (b ∷ []) t.so_far.size)

  -- the byte, and the read of those after it where it said nothing
  abbrev both : Given
  both =
      then_read said (record { reader = reader_by d now; used = 1; said = said })
      (read_of (reader_by d now) (drop (i + 1) bs))

  with_byte : read_of r bs ≡ record { reader = both.reader; used = i + both.used; said = both.said }
  with_byte =
      let first : drop i bs ≡ b ∷ drop (i + 1) bs =
      drop-cons bs i 0 t.inside ∙ ap (λ k. b ∷ drop k bs) (sym (add-one i)) in
      t.so_far.left ∙ rw (first, read_steps now b (drop (i + 1) bs), one_byte)

  -- it said nothing: the read goes on
  pub goes_on : d.outcome ≡ Nothing → SoFar r bs (i + 1) (reader_by d now)
  goes_on e = record { within = omega (arith, t.inside); sound = sound_after; size = whole_after; left = left_on e }
    where
      left_on : d.outcome ≡ Nothing → Left r bs (i + 1) (reader_by d now)
      left_on e =
          let n : i + suc (read_of (reader_by d now) (drop (i + 1) bs)).used ≡ i + 1 + (read_of (reader_by d now)
          (drop (i + 1) bs)).used = omega arith in
          with_byte ∙ rw (e, n)

  -- it gave a verdict: the read ends
  verdict_here : (h : Handed) → said ≡ h ∷ []
      → read_of r bs ≡ record { reader = reader_by d now; used = i + 1; said = h ∷ [] }
  verdict_here h e = with_byte ∙ rw e

-- ---- what `read` promises, at each of its ways out

reads : (r : Reader) (bs : List ℕ) (a : Given) (said : Option Verdict) → read_of r bs ≡ a
    → verdicts_in said ≡ map verdict_for a.said → Reads r bs a.reader a.used said
reads r bs a said e v =
    let next : a.reader ≡ (read_of r bs).reader = ap (λ x. x.reader) (sym e) in
    let verdict : verdicts_in said ≡ map verdict_for (read_of r bs).said =
    v ∙ ap (λ x. map verdict_for x.said) (sym e) in
    record {
      gives = record {
        next = next;
        verdict = verdict;
        handed = handed_from_verdict r bs
            a.reader said verdict next;
      };
      uses = ap (λ x. x.used) (sym e);
    }

pub reads_all : {r : Reader} {bs : List ℕ} {i : ℕ} {now : Reader} → SoFar r bs i now → length bs ≤ i
    → Reads r bs now i None
reads_all {r} {bs} {i} {now} t h =
    reads r bs (record { reader = now; used = i; said = [] }) None
    (t.left ∙ rw (drop_of_length-le bs h, read_none now t.size t.sound, add-zero i)) refl

pub reads_number : {r : Reader} {bs : List ℕ} {i : ℕ} {now : Reader} {d : Decision} → Turn r bs i now d → (number : ℕ)
    → d.outcome ≡ Number number
    → (said : Option Verdict) → said ≡ Some (verdict_for (handing number [])) → Reads r bs (reader_by d now) (i + 1) said
reads_number {r} {bs} {i} {now} {d} t number o said e =
    let h = handing number [] in
    reads r bs (record { reader = reader_by d now; used = i + 1; said = h ∷ [] }) said (verdict_here t h (rw o))
    (ap verdicts_in e)

pub reads_judged : {r : Reader} {bs : List ℕ} {i : ℕ} {now : Reader} {d : Decision} → Turn r bs i now d
    → d.outcome ≡ Judgement
    → (said : Option Verdict) → said ≡ said_of (judged_frame (stored_by d now)) → Reads r bs (reader_by d now) (i + 1) said
reads_judged {r} {bs} {i} {now} {d} t o said e =
    let h = judged_of (stored_by d now) in
    let more = drop (length (frame t)) now.bytes in
    let front : judged_of (stored_by d now) ≡ judged_of (frame t) =
    rw (begins t) (judged_front (frame t) more (sums_held t o)) in
    let verdict : said ≡ Some (verdict_for h) = e ∙ ap said_of (judged_whole (stored_by d now) (complete t o)) in
    reads r bs (record { reader = reader_by d now; used = i + 1; said = h ∷ [] }) said (verdict_here t h (rw (o, front)))
    (ap verdicts_in verdict)

-- ---- before the loop

left_all : (r : Reader) (bs : List ℕ) → Left r bs 0 r
left_all r bs = rw (zero-add (read_of r bs).used)

module _ (r : Reader) (f : Framing) (m : r.mode ≡ Skipping f) (sound : sound_reader r ≡ true) where
  -- a byte between frames that is no start
  skip_one : (b : ℕ) (bs : List ℕ) → (b ≡ start_of f → ⊥)
      → read_of r
      (b ∷ bs) ≡ record { reader = (read_of r bs).reader; used = suc (read_of r bs).used; said = (read_of r bs).said }
  unfolding scan_of
  skip_one b bs other =
      let held = take r.held r.bytes in
      let stays : step_of r.escapes (state_of r) b ≡ goes r.mode held =
      rw m (no_start r.escapes (Skipping f) held b other) in
      rw (read_sound r (b ∷ bs) sound, read_sound r bs sound, stays)

  left_skipping : (bs : List ℕ) → Left r bs (length (up_to_start (start_of f) bs)) r
  left_skipping [] = left_all r []
  left_skipping (b ∷ bs) =
      let x = start_of f in
      let n = length (up_to_start x bs) in
      let more : suc (n + (read_of r (drop n bs)).used) ≡ suc n + (read_of r (drop n bs)).used = omega arith in
      by_test (λ l. Left r (b ∷ bs) (length l) r) (eqb b x) [] (b ∷ up_to_start x bs)
      (λ e. left_all r (b ∷ bs)) (λ e. skip_one b bs (eqb-false b x e) ∙ rw (left_skipping bs, more))

-- nothing is said of what is skipped, and it leaves the reader as it is
left_skipped : (r : Reader) (bs : List ℕ) → sound_reader r ≡ true → Left r bs (skipped_in r.mode bs) r
left_skipped r bs sound = by_mode r.mode refl
  where
    by_mode : (m : Mode) → r.mode ≡ m → Left r bs (skipped_in m bs) r
    by_mode (Skipping f) e = left_skipping r f e sound bs
    by_mode (Open f) e = left_all r bs
    by_mode Escape e = left_all r bs
    by_mode (Digit d) e = left_all r bs

skipped_within : (m : Mode) (bs : List ℕ) → skipped_in m bs ≤ length bs
skipped_within (Skipping f) bs = up_to_within (start_of f) bs
skipped_within (Open f) bs = omega arith
skipped_within Escape bs = omega arith
skipped_within (Digit d) bs = omega arith

pub skipped_on : (r : Reader) (bs : List ℕ) (i : ℕ) → length r.bytes ≡ longest + 3 → sound_reader r ≡ true
    → i ≡ skipped_in r.mode bs → SoFar r bs i r
unfolding Whole
skipped_on r bs i size sound e =
    rw e (record { within = skipped_within r.mode bs; sound = sound; size = size; left = left_skipped r bs sound })

-- ---- plain bytes at once

laid_after : (bytes : List ℕ) (n : ℕ) (more : List ℕ) → n ≤ length bytes
    → laid bytes n more ≡ laid bytes 0 (take n bytes ++ more)
laid_after bytes n more h =
    let size : length (take n bytes ++ more) ≡ n + length more =
    length-append (take n bytes) more ∙ ap (λ k. k + length more) (length-take-le n bytes h) in
    sym (laid_front bytes (take n bytes ++ more) ∙ rw size)

-- the reader after they are taken
abbrev pub grown_by : Reader → List ℕ → Reader
grown_by now more = reader_with now (now.held + length more) (laid now.bytes now.held more)

same_beyond : (f : Framing) → beyond_length (Open f) ≡ beyond f
same_beyond Binary = refl
same_beyond Ascii = refl

take_again : (n : ℕ) (l : List ℕ) → take (length (take n l)) l ≡ take n l
take_again zero l = refl
take_again (suc n) [] = refl
take_again (suc n) (x ∷ l) = ap (λ r. x ∷ r) (take_again n l)

-- the bytes held and those that are taken are those of a frame of length L
few_grown : (beyond L k : ℕ) (held plain : List ℕ) → length_ok L ≡ true → get_or (held ++ plain) 0 0 ≡ L
    → length (held ++ take k plain) ≤ L + beyond → Few beyond (held ++ take k plain)
few_grown beyond L k (b ∷ held) plain known e h = (rw e known, omega arith)
few_grown beyond L zero [] plain known e h = tt
few_grown beyond L (suc k) [] [] known e h = tt
few_grown beyond L (suc k) [] (x ∷ plain) known e h = (rw e known, omega arith)

held_few : (beyond L : ℕ) (held plain : List ℕ) → Few beyond held → get_or (held ++ plain) 0 0 ≡ L
    → length held ≤ L + beyond
held_few beyond L [] plain k e = omega arith
held_few beyond L (b ∷ held) plain k e = omega (arith, k.1)

module _ {r : Reader} {bs : List ℕ} {i : ℕ} {now : Reader} (t : SoFar r bs i now) (f : Framing)
    (m : now.mode ≡ Open f) where
  abbrev rest : List ℕ
  rest = drop i bs

  abbrev held : List ℕ
  held = take now.held now.bytes

  there : now.held ≤ length now.bytes
  unfolding Whole
  there = omega (arith, sound_held now t.sound, t.size)

  in_frame_lem : state_of now ≡ in_frame f held
  in_frame_lem = ap (λ (x : Mode). record { mode = x; held = held }) m

  -- some bytes more are held
  module _ (more : List ℕ) (fits : Fits (Open f) (held ++ more)) where
    same : grown_by now more ≡ reader_after now (in_frame f (held ++ more)) (held ++ more)
    same =
        let size : length (held ++ more) ≡ now.held + length more =
        length-append held more ∙ ap (λ n. n + length more) (length-take-le now.held now.bytes there) in
        rw (m, laid_after now.bytes now.held more there, size)

    size_on : Whole (reader_after now (in_frame f (held ++ more)) (held ++ more))
    unfolding Whole
    size_on =
        let few : length (held ++ more) ≤ length now.bytes =
        omega (arith, few_held (Open f) (held ++ more) fits, t.size) in
        length_laid now.bytes (held ++ more) few ∙ t.size

    -- n bytes in silence brought them
    silent_on : (n : ℕ) → n ≤ length rest
        → scan_of now.escapes (in_frame f held) rest
        ≡ used_more n (scan_of now.escapes (in_frame f (held ++ more)) (drop n rest))
        → SoFar r bs (i + n) (grown_by now more)
    silent_on n inside e =
        let quiet : Quiet (state_of now) (in_frame f (held ++ more)) =
        record { stays = inr refl; open_on = λ o. (refl, omega (arith, length-append held more)) } in
        let later = again now t.sound (in_frame f (held ++ more)) (drop n rest) fits quiet in
        let first =
        read_sound now rest t.sound ∙ ap (λ s. read_from now (scan_of now.escapes s rest)) in_frame_lem
        ∙ ap (read_from now) e in
        let used : (u : ℕ) → i + (n + u) ≡ i + n + u = λ u. omega arith in
        rw same
        (record {
          within = omega (arith, length-drop i bs, t.within);
          sound = sound_with_lem (Open f) now.bytes (held ++ more) (held ++ more) (inr refl) fits;
          size = size_on;
          left = t.left
              ∙ rw (
                first,
                ← drop-drop n i bs,
                later,
                used (scan_of now.escapes (in_frame f (held ++ more)) (drop n rest)).used,
              );
        })

  -- those that an open frame takes
  grown_on : SoFar r bs (i + span f (length (growth f now.held now.bytes rest)))
      (grown_by now (growth f now.held now.bytes rest))
  grown_on = by_growth (grew f now.held now.bytes rest)
    where
      by_growth : (growth f now.held now.bytes rest ≡ []) ⊎ Grew f now.held now.bytes rest
          → SoFar r bs (i + span f (length (growth f now.held now.bytes rest)))
          (grown_by now (growth f now.held now.bytes rest))
      by_growth (inl e) = rw (e, ← laid_none now.bytes now.held, span_none f, add-zero i, add-zero now.held) t
      by_growth (inr w) =
          let P = plain_of f rest in
          let L = length_of now.held now.bytes P in
          let most = L + beyond f - now.held in
          let g = take most P in
          let bound = rw (same_beyond f) at (rw m at (reader_fits now t.sound)).0 in
          let few : length held ≤ L + beyond f = held_few (beyond f) L held P bound refl in
          let size = length-take-le now.held now.bytes there in
          let short = length-take most P in
          let fits : Fits (Open f) (held ++ g) = (
            rw (same_beyond f)
                (few_grown (beyond f) L most held P w.known refl (omega (arith, length-append held g))),
            refl,
          ) in
          let run =
          plain_run now.escapes f L w.known (length g) held rest P refl (omega arith) refl (omega arith) in
          rw w.is
          (silent_on g fits (span f (length g)) (within f (length g) rest P refl (omega arith))
          (rw (take_again most P) at run))

-- what is taken leaves the whole read as it is
pub takes_on : {r : Reader} {bs : List ℕ} {i : ℕ} {now : Reader} (taken : Taken) (after : List ℕ) → SoFar r bs i now
    → TakesIn now.mode now.held now.bytes (drop i bs) taken after
    → SoFar r bs (i + taken.used) (reader_with now (now.held + taken.count) after)
takes_on {r} {bs} {i} {now} taken after t = by_mode now.mode refl
  where
    nothing : (taken ≡ record { count = 0; used = 0 }) × (after ≡ now.bytes)
        → SoFar r bs (i + taken.used) (reader_with now (now.held + taken.count) after)
    nothing w = rw (w.0, w.1, add-zero i, add-zero now.held) t

    by_mode : (m : Mode) → now.mode ≡ m → TakesIn m now.held now.bytes (drop i bs) taken after
        → SoFar r bs (i + taken.used) (reader_with now (now.held + taken.count) after)
    by_mode (Skipping f) e w = nothing w
    by_mode (Open f) e w = rw (w.used, w.count, w.lays) (grown_on t f e)
    by_mode Escape e w = nothing w
    by_mode (Digit d) e w = nothing w

-- ---- with the frame's bytes in lent memory

pub lent_reads : (r : Reader) (bs : List ℕ) (reader : Reader) (used : ℕ) (said : Option Verdict) → length r.bytes ≡ longest + 3
    → Reads r bs reader used said
    → Lent r bs reader used said
lent_reads r bs reader used said e w = record {
  gives = subst⁻¹ (Gives reader said) (lent_read_lem r bs e) w.gives;
  uses = w.uses ∙ ap (λ a. a.used) (sym (lent_read_lem r bs e));
}

-- a state that is not sound, or an array of another size, is handed back with 12
refused : (r : Reader) (bs : List ℕ) (said : Option Verdict) → said ≡ Some (verdict_for (handing 12 []))
    → lent_read r bs ≡ not_sound r → Lent r bs r 0 said
refused r bs said e k = record {
  gives = subst⁻¹ (Gives r said) k
      (record { next = refl; verdict = ap verdicts_in e; handed = ap (λ s. handed_in s r.bytes) e });
  uses = ap (λ a. a.used) (sym k);
}

pub lent_other : (r : Reader) (bs : List ℕ) (said : Option Verdict) → said ≡ Some (verdict_for (handing 12 []))
    → (length r.bytes ≡ longest + 3 → ⊥)
    → Lent r bs r 0 said
lent_other r bs said e h = refused r bs said e (lent_none r bs h)

pub lent_unsound : (r : Reader) (bs : List ℕ) (said : Option Verdict) → said ≡ Some (verdict_for (handing 12 []))
    → length r.bytes ≡ longest + 3
    → sound_reader r ≡ false → Lent r bs r 0 said
lent_unsound r bs said e h k = refused r bs said e (lent_read_lem r bs h ∙ read_unsound r bs k)
