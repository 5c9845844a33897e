-- A reader hands out no message longer than the longest of the 41: what is handed out is good. Assumes nothing.
use Prim.Native.Nat.{ℕ, suc, ◌+◌, ◌≤◌, zero-le}
use native.Mathlib.Omega.{arith}
use mathlib.Core.Path.{◌≡◌, refl}
use mathlib.Core.Bool.{Bool, true, false, cond, not}
use mathlib.Core.Option.{Option, none, some}
use mathlib.Core.List.{List, [], ◌∷◌, ◌++◌}
use lib.Bits.{bit_xor}
use lib.Dec.{eqb, leb, ltb}
use lib.ListN.{length, take}
use borrow.Author.Tests.{eqb-true}
use Rattle.standard.specs.declared.Framing.{Framing}
use Rattle.standard.specs.declared.Framing.TheVariants.{Binary, Ascii}
use Rattle.standard.specs.declared.Escapes.{Escapes}
use Rattle.standard.specs.Words.{first_of}
use Rattle.standard.specs.Messages.{longest_known, length_ok, message_tests, check_of}
use Rattle.standard.specs.Framing.{start_of, may_follow, value_of}
use Rattle.standard.specs.Judge.{Handed, sums_differ, whole_of}
use Rattle.standard.proofs.Messages.{good_few}
use Rattle.standard.proofs.Judge.{first_none}
use Rattle.reader.specs.declared.Mode.{Mode}
use Rattle.reader.specs.declared.Mode.TheVariants.{Skipping, Open, Escape, Digit}
use Rattle.reader.specs.declared.Reader.{Reader}
use Rattle.reader.specs.Step.{State, Step, framing_of, takes, takes_digit, takes_character, goes_on, opens, step_of}
use Rattle.reader.specs.Read.{Read, read_on, scan_of, state_of, sound_reader, read_of}
use Rattle.reader.proofs.Part.Frames.{by_test}
use Rattle.reader.proofs.State.Arrays.{read_sound, read_unsound}

abbrev pub Short : List Handed → Type 0
Short [] = Unit {0}
Short (h ∷ hs) = length h.message ≤ longest_known

kept_short : (n : ℕ) (m : List ℕ) → (n ≡ 0 → check_of m ≡ 0) → length (cond (eqb n 0) m []) ≤ longest_known
kept_short n m good = go (eqb n 0) refl
  where
    go : (t : Bool) → eqb n 0 ≡ t → length (cond t m []) ≤ longest_known
    go true e = good_few m (good (eqb-true n 0 e))
    go false e = zero-le

-- a frame that is good has passed its message's own tests
whole_short : (L : ℕ) (rest : List ℕ) → length (whole_of [] L rest).message ≤ longest_known
unfolding whole_of check_of
whole_short L rest =
    kept_short (first_of ((sums_differ L rest, 5) ∷ message_tests (take L rest))) (take L rest)
    (λ e. (first_none (sums_differ L rest) 5 (message_tests (take L rest)) (λ z. omega arith) e).1)

stopped_short : (t : Bool) (L : ℕ) (rest : List ℕ) → length (whole_of ((t, 3) ∷ []) L rest).message ≤ longest_known
unfolding whole_of
stopped_short true L rest = zero-le
stopped_short false L rest = whole_short L rest

takes_short : (f : Framing) (held : List ℕ) (b : ℕ) → Short (takes f held b).said
takes_short f [] b = by_test (λ (t : Step). Short t.said) (length_ok b) _ _ (λ e. tt) (λ e. zero-le)
takes_short Binary (L ∷ rest) b =
    by_test (λ (t : Step). Short t.said) (ltb (suc (length rest)) (L + 2)) _ _ (λ e. tt)
    (λ e. whole_short L (rest ++ (b ∷ [])))
takes_short Ascii (L ∷ rest) b = tt

digit_short : (high : Option ℕ) (held : List ℕ) (digit : Option ℕ) → Short (takes_digit high held digit).said
digit_short high held none = zero-le
digit_short none held (some d) = tt
digit_short (some h) held (some d) = takes_short Ascii held _

character_short : (held : List ℕ) (b : ℕ) → Short (takes_character held b).said
character_short [] b = digit_short none [] (value_of b)
character_short (L ∷ rest) b =
    by_test (λ (t : Step). Short t.said) (leb (L + 2) (length rest)) _ _
    (λ e. stopped_short (not (eqb b 0x0D)) L rest) (λ e. digit_short none (L ∷ rest) (value_of b))

on_short : (rule : Escapes) (m : Mode) (held : List ℕ) (b : ℕ) → Short (goes_on rule m held b).said
on_short rule (Skipping f) held b = tt
on_short rule (Open Binary) held b =
    by_test (λ (t : Step). Short t.said) (eqb b 0x7D) _ _ (λ e. tt) (λ e. takes_short Binary held b)
on_short rule (Open Ascii) held b = character_short held b
on_short rule Escape held b =
    by_test (λ (t : Step). Short t.said) (may_follow rule b) _ _ (λ e. takes_short Binary held (bit_xor b 0x20))
    (λ e. zero-le)
on_short rule (Digit h) held b = digit_short (some h) held (value_of b)

cut_short : (m : Mode) (held : List ℕ) → Short (opens (record { mode = m; held = held })).said
cut_short (Skipping f) held = tt
cut_short (Open f) held = zero-le
cut_short Escape held = zero-le
cut_short (Digit d) held = zero-le

step_short : (rule : Escapes) (s : State) (b : ℕ) → Short (step_of rule s b).said
unfolding step_of
step_short rule s b =
    by_test (λ (t : Step). Short t.said) (eqb b (start_of (framing_of s.mode))) _ _
    (λ e. cut_short s.mode s.held) (λ e. on_short rule s.mode s.held b)

on_by : (said : List Handed) (first : Step) (later : Read) → Short said → Short later.said
    → Short (read_on said first later).said
on_by [] first later p q = q
on_by (h ∷ hs) first later p q = p

scan_short : (rule : Escapes) (s : State) (bs : List ℕ) → Short (scan_of rule s bs).said
unfolding scan_of
scan_short rule s [] = tt
scan_short rule s (b ∷ bs) =
    on_by (step_of rule s b).said (step_of rule s b) (scan_of rule (step_of rule s b).next bs) (step_short rule s b)
    (scan_short rule (step_of rule s b).next bs)

-- from every reader, sound or not
pub read_short : (r : Reader) (bs : List ℕ) → Short (read_of r bs).said
read_short r bs = by_sound (sound_reader r) refl
  where
    by_sound : (t : Bool) → sound_reader r ≡ t → Short (read_of r bs).said
    by_sound true h = rw (read_sound r bs h) (scan_short r.escapes (state_of r) bs)
    by_sound false h = rw (read_unsound r bs h) zero-le
