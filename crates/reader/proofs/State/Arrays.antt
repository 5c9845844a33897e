-- A reader as code has it, with its array: after a read its state is the scan's, it is sound if it was, and the message
-- stands in it. For every array; only that its size stays asks for the size. Assumes nothing.
use Prim.Native.Nat.{ℕ, zero, suc, ◌+◌, ◌-◌, ◌≤◌}
use native.Mathlib.Nat.{zero-add}
use native.Mathlib.Omega.{arith}
use mathlib.Core.Path.{◌≡◌, refl, sym, ap, ap₂, subst, ◌∙◌}
use mathlib.Core.Logic.{◌⊎◌, inl, inr}
use mathlib.Core.Bool.{Bool, true, false}
use mathlib.Core.List.{List, [], ◌∷◌, ◌++◌}
use lib.ListN.{length, get_or, take, drop, length-append, length-drop}
use lib.Seq.{length-take-le, take-append_seam, drop-append-add, drop-drop}
use borrow.Author.Tests.{eq-eqb, ne_eqb}
use Rattle.standard.specs.declared.Framing.{Framing}
use Rattle.standard.specs.declared.Escapes.{Escapes}
use Rattle.std.specs.Prelude.{Option}
use Rattle.standard.specs.declared.Verdict.{Verdict}
use Rattle.standard.specs.Words.{laid}
use Rattle.standard.specs.Messages.{longest}
use Rattle.standard.specs.Judge.{Handed}
use Rattle.reader.specs.declared.Mode.{Mode}
use Rattle.reader.specs.declared.Reader.{Reader}
use Rattle.reader.specs.Step.{State, sound_with, step_of}
use Rattle.reader.specs.Read.{Read, scan_of, state_of, sound_reader, fresh_reader, reader_after, Given, not_sound}
use Rattle.reader.specs.Read.{read_from, read_of, then_read, Gives, Reads, lent_read, Lent}
use Rattle.reader.proofs.State.Soundness.{Fits, reader_fits, fits_sound, sound_held}
use Rattle.reader.proofs.Part.Judging.{is_open}
use Rattle.reader.proofs.State.Kept.{Quiet, keeps_step, keeps_scan}

-- ---- bytes laid over the beginning of an array

pub laid_front : (bytes kept : List ℕ) → laid bytes 0 kept ≡ kept ++ drop (length kept) bytes
laid_front bytes kept = ap (λ n. kept ++ drop n bytes) (zero-add (length kept))

-- those that stand there already
laid_same : (n : ℕ) (bytes : List ℕ) → laid bytes 0 (take n bytes) ≡ bytes
laid_same n bytes = laid_front bytes (take n bytes) ∙ again n bytes
  where
    again : (n : ℕ) (l : List ℕ) → take n l ++ drop (length (take n l)) l ≡ l
    again zero l = refl
    again (suc n) [] = refl
    again (suc n) (x ∷ l) = ap (λ r. x ∷ r) (again n l)

-- as many bytes or more lie over the earlier ones
laid_over : (bytes a b : List ℕ) → length a ≤ length b → laid (laid bytes 0 a) 0 b ≡ laid bytes 0 b
laid_over bytes a b h =
    let n = length b - length a in
    let e : length b ≡ length a + n = omega arith in
    ap (λ l. laid l 0 b) (laid_front bytes a) ∙ laid_front (a ++ drop (length a) bytes) b
    ∙ ap (λ l. b ++ l)
    (ap (λ k. drop k (a ++ drop (length a) bytes)) e
    ∙ drop-append-add a (drop (length a) bytes) n
    ∙ drop-drop n (length a) bytes
    ∙ ap (λ k. drop k bytes) (sym e))
    ∙ sym (laid_front bytes b)

pub length_laid : (bytes kept : List ℕ) → length kept ≤ length bytes → length (laid bytes 0 kept) ≡ length bytes
length_laid bytes kept h =
    ap length (laid_front bytes kept)
    ∙ omega (arith, length-append kept (drop (length kept) bytes), length-drop (length kept) bytes)

-- ---- the reader after a read

begin_held : (bytes held kept : List ℕ) → (held ≡ []) ⊎ (held ≡ kept) → take (length held) (laid bytes 0 kept) ≡ held
begin_held bytes held kept (inl e) = rw e
begin_held bytes held kept (inr e) =
    rw e (ap (take (length kept)) (laid_front bytes kept) ∙ take-append_seam kept (drop (length kept) bytes))

abbrev state_with : State → List ℕ → State
state_with s held = record { mode = s.mode; held = held }

state_after : (r : Reader) (next : State) (kept : List ℕ) → (next.held ≡ []) ⊎ (next.held ≡ kept)
    → state_of (reader_after r next kept) ≡ next
state_after r next kept h = ap (state_with next) (begin_held r.bytes next.held kept h)

pub sound_with_lem : (m : Mode) (bytes held kept : List ℕ) → (held ≡ []) ⊎ (held ≡ kept) → Fits m held
    → sound_with m (length held) (get_or (laid bytes 0 kept) 0 0) ≡ true
sound_with_lem m bytes held kept (inl e) k = rw e (fits_sound m [] (laid bytes 0 kept) (rw e at k))
sound_with_lem m bytes held kept (inr e) k =
    rw (e, laid_front bytes kept) (fits_sound m kept (drop (length kept) bytes) (rw e at k))

-- a sound reader reads, an unsound one is refused
pub read_sound : (r : Reader) (bs : List ℕ) → sound_reader r ≡ true
    → read_of r bs ≡ read_from r (scan_of r.escapes (state_of r) bs)
unfolding read_of
read_sound r bs h = rw h

pub read_unsound : (r : Reader) (bs : List ℕ) → sound_reader r ≡ false → read_of r bs ≡ not_sound r
unfolding read_of
read_unsound r bs h = rw h

module _ (r : Reader) (bs : List ℕ) (h : sound_reader r ≡ true) where
  abbrev scan : Read
  scan = scan_of r.escapes (state_of r) bs

  -- the state after a read
  pub state_read : state_of (read_of r bs).reader ≡ (scan_of r.escapes (state_of r) bs).next
  state_read =
      rw (read_sound r bs h) (state_after r scan.next scan.kept (keeps_scan r.escapes (state_of r) bs).begins)

  -- a sound reader stays sound
  pub sound_read : sound_reader (read_of r bs).reader ≡ true
  sound_read =
      let w = keeps_scan r.escapes (state_of r) bs in
      rw (read_sound r bs h)
      (sound_with_lem scan.next.mode r.bytes scan.next.held scan.kept w.begins (w.fits (reader_fits r h)))

-- the array of a reader has room for the longest frame's bytes
unfoldable pub Whole : Reader → Type 0
Whole r = length r.bytes ≡ longest + 3

-- a fresh reader has it, and it stays
pub whole_fresh : (rule : Escapes) (f : Framing) → Whole (fresh_reader rule f)
unfolding Whole
whole_fresh rule f = refl

whole_by : (r : Reader) (bs : List ℕ) (t : Bool) → sound_reader r ≡ t → Whole r → Whole (read_of r bs).reader
unfolding Whole
whole_by r bs true h w =
    let few = (keeps_scan r.escapes (state_of r) bs).few (reader_fits r h) in
    rw (read_sound r bs h) (length_laid r.bytes (scan_of r.escapes (state_of r) bs).kept (omega arith) ∙ w)
whole_by r bs false h w = rw (read_unsound r bs h) w

pub whole_read : (r : Reader) (bs : List ℕ) → Whole r → Whole (read_of r bs).reader
whole_read r bs w = whole_by r bs (sound_reader r) refl w

-- a reader that holds so many bytes of this array
abbrev pub reader_with : Reader → ℕ → List ℕ → Reader
reader_with r held bytes = record { mode = r.mode; held = held; bytes = bytes; escapes = r.escapes }

-- the rule of escapes is handed back as it was
pub rule_stays : (r : Reader) (bs : List ℕ) → (read_of r bs).reader.escapes ≡ r.escapes
rule_stays r bs = by_sound (sound_reader r) refl
  where
    by_sound : (t : Bool) → sound_reader r ≡ t → (read_of r bs).reader.escapes ≡ r.escapes
    by_sound true h = rw (read_sound r bs h)
    by_sound false h = rw (read_unsound r bs h)

-- an empty read with a sound state hands the reader back, and uses and gives nothing
pub read_none : (r : Reader) → Whole r → sound_reader r ≡ true → read_of r [] ≡ record { reader = r; used = 0; said = [] }
unfolding scan_of Whole
read_none r w h =
    let fits : length (take r.held r.bytes) ≡ r.held =
    length-take-le r.held r.bytes (omega (arith, sound_held r h)) in
    read_sound r [] h
    ∙ ap (λ (x : Reader). record { reader = x; used = 0; said = [] })
    (ap₂ (reader_with r) fits (laid_same r.held r.bytes))

-- ---- `read` is `step` repeated up to the first verdict

-- a read of one byte and more is the read of that byte, and then of the others where it said nothing
abbrev Repeated : Reader → ℕ → List ℕ → Type 0
Repeated r b bs =
    read_of r (b ∷ bs) ≡ then_read (read_of r (b ∷ [])).said (read_of r (b ∷ [])) (read_of (read_of r (b ∷ [])).reader bs)

-- an answer of which the array is given
answer_with : Escapes → Read → List ℕ → Given
answer_with rule read bytes = record {
  reader = record { mode = read.next.mode; held = length read.next.held; bytes = bytes; escapes = rule };
  used = read.used;
  said = read.said;
}

module _ (r : Reader) (h : sound_reader r ≡ true) where
  same_array : (next : State) (kept : List ℕ) → Quiet (state_of r) next
      → (is_open next.mode ≡ true → length next.held ≤ length kept)
      → laid (laid r.bytes 0 next.held) 0 kept ≡ laid r.bytes 0 kept
  same_array next kept q longer = by_stays q.stays
    where
      by_stays : (next.held ≡ take r.held r.bytes) ⊎ (is_open next.mode ≡ true)
          → laid (laid r.bytes 0 next.held) 0 kept ≡ laid r.bytes 0 kept
      by_stays (inl e) = ap (λ l. laid l 0 kept) (ap (laid r.bytes 0) e ∙ laid_same r.held r.bytes)
      by_stays (inr o) = laid_over r.bytes next.held kept (longer o)

  -- the read goes on from the reader after a byte that said nothing
  pub again : (next : State) (bs : List ℕ) → Fits next.mode next.held → Quiet (state_of r) next
      → read_of (reader_after r next next.held) bs ≡ read_from r (scan_of r.escapes next bs)
  unfolding answer_with
  again next bs k q =
      let r₁ = reader_after r next next.held in
      let w = keeps_scan r.escapes next bs in
      read_sound r₁ bs (sound_with_lem next.mode r.bytes next.held next.held (inr refl) k)
      ∙ ap (λ s. read_from r₁ (scan_of r.escapes s bs)) (state_after r next next.held (inr refl))
      ∙ ap (answer_with r.escapes (scan_of r.escapes next bs))
      (same_array next (scan_of r.escapes next bs).kept q w.longer)

  by_said : (b : ℕ) (bs : List ℕ) (o : List Handed) → (step_of r.escapes (state_of r) b).said ≡ o → Repeated r b bs
  unfolding scan_of
  by_said b bs [] e =
      let w = keeps_step r.escapes (state_of r) b in
      rw (
        read_sound r (b ∷ bs) h,
        read_sound r (b ∷ []) h,
        e,
        again (step_of r.escapes (state_of r) b).next bs
            (w.0.fits (reader_fits r h)) (w.1 e),
      )
  by_said b bs (g ∷ gs) e = rw (read_sound r (b ∷ bs) h, read_sound r (b ∷ []) h, e)

steps_by : (r : Reader) (b : ℕ) (bs : List ℕ) (t : Bool) → sound_reader r ≡ t → Repeated r b bs
steps_by r b bs true h = by_said r h b bs (step_of r.escapes (state_of r) b).said refl
steps_by r b bs false h = rw (read_unsound r (b ∷ bs) h, read_unsound r (b ∷ []) h)

-- for every reader, sound or not
pub read_steps : (r : Reader) (b : ℕ) (bs : List ℕ)
    → read_of r (b ∷ bs) ≡ then_read (read_of r (b ∷ [])).said (read_of r (b ∷ [])) (read_of (read_of r (b ∷ [])).reader bs)
read_steps r b bs = steps_by r b bs (sound_reader r) refl

-- ---- the frame's bytes in lent memory

-- where it is as long as a reader's array, that read
pub lent_read_lem : (r : Reader) (bs : List ℕ) → length r.bytes ≡ longest + 3 → lent_read r bs ≡ read_of r bs
unfolding lent_read
lent_read_lem r bs e = rw (eq-eqb (length r.bytes) (longest + 3) e)

pub lent_none : (r : Reader) (bs : List ℕ) → (length r.bytes ≡ longest + 3 → ⊥) → lent_read r bs ≡ not_sound r
unfolding lent_read
lent_none r bs h = rw (ne_eqb (length r.bytes) (longest + 3) h)

-- what `scan` promises of such an array is what `read` promises
pub lent_is_read : (r : Reader) (bs : List ℕ) (reader : Reader) (used : ℕ) (said : Option Verdict)
    → length r.bytes ≡ longest + 3
    → Lent r bs reader used said → Reads r bs reader used said
lent_is_read r bs reader used said e w = record {
  gives = subst (Gives reader said) (lent_read_lem r bs e) w.gives;
  uses = w.uses ∙ ap (λ a. a.used) (lent_read_lem r bs e);
}
