-- Demand 2 over the promise of `write`: what it puts into the buffer is handed out again, and what was read is put
-- there byte for byte: by the strict rule always, by the old one exactly if its only escapes were needed. Assumes
-- nothing.
use Prim.Native.Nat.{ℕ, ◌+◌, ◌-◌, ◌≤◌}
use mathlib.Core.Path.{◌≡◌, refl, sym, ap, ◌∙◌}
use mathlib.Core.Bool.{Bool, true, false}
use mathlib.Core.List.{List, [], ◌∷◌, ◌++◌, append_assoc, cons≢nil}
use lib.Dec.{eqb}
use lib.ListN.{length, take, drop}
use lib.Seq.{take-append_seam, drop_at, length-take-le}
use borrow.Author.Tests.{eqb-true, eqb-false}
use Rattle.standard.specs.declared.Framing.{Framing}
use Rattle.standard.specs.declared.Escapes.{Escapes}
use Rattle.standard.specs.declared.Escapes.TheVariants.{Strict}
use Rattle.standard.specs.Refusals.{Written}
use Rattle.standard.specs.Words.{laid}
use Rattle.standard.specs.Messages.{check_of}
use Rattle.standard.specs.Framing.{start_of, frame_of, escapes_needed}
use Rattle.standard.specs.Judge.{handing}
use Rattle.standard.specs.Stream.{handed_of}
use Rattle.standard.specs.Writer.{write_refusal, written_of, after_write, Wrote}
use Rattle.standard.proofs.Framings.{Bytes}
use Rattle.standard.proofs.Judge.{good_check}
use Rattle.writer.specs.RoundTrip.{comes_back, HandsOut}
use Rattle.writer.proofs.Fit.{fits, fit}
use Rattle.writer.proofs.Answers.{first_refusal, last_refusal}
use Rattle.writer.proofs.RoundTrip.{write_then_read_one, read_then_write, written_needed}

-- what was laid from a place on stands there
laid_there : (out : List ℕ) (place : ℕ) (part : List ℕ) → place ≤ length out
    → take (length part) (drop place (laid out place part)) ≡ part
laid_there out place part h =
    let rest = drop (place + length part) out in
    ap (λ (l : List ℕ). take (length part) (drop place l)) (append_assoc (take place out) part rest)
    ∙ ap (take (length part)) (drop_at (take place out) (part ++ rest) place (length-take-le place out h))
    ∙ take-append_seam part rest

module _ (m : List ℕ) (f : Framing) (out : List ℕ) (place : ℕ) where
  -- the bytes that an answer speaks of
  abbrev pub put : Written → List ℕ → List ℕ
  put a after = take a.length (drop place after)

  -- no refusal: the message is good, and its frame fits
  record Accepted : Type 0 where
    check : check_of m ≡ 0
    within : place ≤ length out
    room : length (frame_of f m) ≤ length out - place

  accepted : write_refusal m f out place ≡ 0 → Accepted
  accepted e = go (eqb (check_of m) 0) refl
    where
      go : (t : Bool) → eqb (check_of m) 0 ≡ t → Accepted
      go true k =
          let check = eqb-true (check_of m) 0 k in
          let told = fit (length (frame_of f m)) place (length out) (sym (last_refusal m f out place check) ∙ e) in
          record { check = check; within = told.0; room = told.1 }
      go false k =
          let bad = eqb-false (check_of m) 0 k in
          absurd (bad (sym (first_refusal m f out place bad) ∙ e))

  -- a frame that was not refused stands at its place
  put_frame_lem : (a : Written) (after : List ℕ) → Wrote m f out place a after → write_refusal m f out place ≡ 0
      → place ≤ length out → put a after ≡ frame_of f m
  unfolding written_of after_write
  put_frame_lem a after w e h =
      let long : a.length ≡ length (frame_of f m) = ap (λ (x : Written). x.length) w.says ∙ rw e in
      let there : after ≡ laid out place (frame_of f m) = w.leaves ∙ rw e in
      ap (λ (n : ℕ). take n (drop place after)) long
      ∙ ap (λ (l : List ℕ). take (length (frame_of f m)) (drop place l)) there
      ∙ laid_there out place (frame_of f m) h

  -- WHAT IS WRITTEN IS READ: where the answer is 0, the bytes that it speaks of hand out the message
  pub written_read : (rule : Escapes) (a : Written) (after : List ℕ) → Bytes m → Wrote m f out place a after
      → a.number ≡ 0
      → handed_of rule f (put a after) ≡ handing 0 m ∷ []
  unfolding written_of
  written_read rule a after b w z =
      let none : write_refusal m f out place ≡ 0 = sym (ap (λ (x : Written). x.number) w.says) ∙ z in
      let good = accepted none in
      ap (handed_of rule f) (put_frame_lem a after w none good.within) ∙ write_then_read_one rule f m good.check b

  -- WHAT IS READ IS WRITTEN: a part is put again byte for byte, wherever it fits; by the old rule one whose escapes
  -- were needed
  pub read_written : (rule : Escapes) (front : List ℕ) (last : ℕ) → HandsOut rule f front last m
      → comes_back rule f (front ++ (last ∷ [])) ≡ true
      → place ≤ length out → length (start_of f ∷ front ++ (last ∷ [])) ≤ length out - place
      → (a : Written) (after : List ℕ) → Wrote m f out place a after
      → (a.number ≡ 0) × (put a after ≡ start_of f ∷ front ++ (last ∷ []))
  unfolding written_of
  read_written rule front last r n h k a after w =
      let same = read_then_write rule f front last m r n in
      let room : length (frame_of f m) ≤ length out - place = rw same k in
      let none : write_refusal m f out place ≡ 0 =
      last_refusal m f out place (good_check rule f (front ++ (last ∷ [])) m r.said)
      ∙ rw (fits (length (frame_of f m)) place (length out) h room) in
      (ap (λ (x : Written). x.number) w.says ∙ none, put_frame_lem a after w none h ∙ same)

  -- WITHOUT CONDITION by the strict rule
  pub strict_read_written : (front : List ℕ) (last : ℕ) → HandsOut Strict f front last m → place ≤ length out
      → length (start_of f ∷ front ++ (last ∷ [])) ≤ length out - place
      → (a : Written) (after : List ℕ) → Wrote m f out place a after
      → (a.number ≡ 0) × (put a after ≡ start_of f ∷ front ++ (last ∷ []))
  strict_read_written front last r = read_written Strict front last r refl

  -- AND NOTHING ELSE IS: where the bytes that an answer speaks of are a part, its only escapes were needed
  pub needless_not_written : (after : List ℕ) (a : Written) (left : List ℕ) → Wrote m f out place a left
      → put a left ≡ start_of f ∷ after → escapes_needed f after ≡ true
  unfolding written_of
  needless_not_written after a left w e = go (eqb (write_refusal m f out place) 0) refl
    where
      go : (t : Bool) → eqb (write_refusal m f out place) 0 ≡ t → escapes_needed f after ≡ true
      go true k =
          let none = eqb-true (write_refusal m f out place) 0 k in
          written_needed f after m (sym (put_frame_lem a left w none (accepted none).within) ∙ e)
      go false k =
          let short : a.length ≡ 0 = ap (λ (x : Written). x.length) w.says ∙ rw k in
          absurd (cons≢nil (sym e ∙ ap (λ (n : ℕ). take n (drop place left)) short))
