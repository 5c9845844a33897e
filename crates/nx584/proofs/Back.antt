-- A reader in C's numbers, and back: no number loses a part of it. Assumes nothing.
use Prim.Native.Nat.{ℕ, zero, suc, ◌+◌, ◌≤◌}
use native.Mathlib.Omega.{arith}
use mathlib.Core.Path.{◌≡◌, refl, sym, ap, ap₂, ◌∙◌}
use mathlib.Core.Bool.{Bool, true, false, false≢true, cond, ◌&&◌, ◌||◌}
use lib.Dec.{eqb, leb}
use lib.ListN.{get_or}
use borrow.Author.Tests.{leb-true, eqb-true, eq-eqb, ne_eqb}
use Rattle.standard.specs.declared.Framing.{Framing}
use Rattle.standard.specs.declared.Framing.TheVariants.{Binary, Ascii}
use Rattle.standard.specs.declared.Escapes.{Escapes}
use Rattle.standard.specs.declared.Escapes.TheVariants.{Strict, Lenient}
use Rattle.standard.specs.Messages.{length_ok}
use Rattle.standard.proofs.Messages.{both_true}
use Rattle.reader.specs.declared.Mode.{Mode}
use Rattle.reader.specs.declared.Mode.TheVariants.{Skipping, Open, Escape, Digit}
use Rattle.reader.specs.declared.Reader.{Reader}
use Rattle.reader.specs.Step.{framing_of, beyond_length, pending_ok}
use Rattle.reader.specs.Read.{sound_reader}
use Rattle.nx584.specs.declared.CReader.{CReader}
use Rattle.nx584.specs.Boundary.{mode_ok, framing_for, framing_number, mode_number, digit_number, mode_for, reader_for}
use Rattle.nx584.specs.Boundary.{escapes_for, escapes_number, c_reader, sound_c, settled}

-- ---- framing and mode

pub framing_back : (f : Framing) → framing_for (framing_number f) ≡ f
framing_back Binary = refl
framing_back Ascii = refl

pub mode_back : (m : Mode) → mode_for (framing_for (framing_number (framing_of m))) (mode_number m) (digit_number m) ≡ m
mode_back (Skipping Binary) = refl
mode_back (Skipping Ascii) = refl
mode_back (Open Binary) = refl
mode_back (Open Ascii) = refl
mode_back Escape = refl
mode_back (Digit d) = refl

-- ---- the reader

pub escapes_back : (rule : Escapes) → escapes_for (escapes_number rule) ≡ rule
escapes_back Strict = refl
escapes_back Lenient = refl

abbrev made : Reader → Mode → Escapes → Reader
made r m rule = record { mode = m; held = r.held; bytes = r.bytes; escapes = rule }

-- with any number of its rule
pub reader_back : (n : ℕ) (r : Reader) → escapes_for n ≡ r.escapes → reader_for (c_reader n r) ≡ r
reader_back n r k = ap₂ (made r) (mode_back r.mode) k

-- two readers with the same numbers are one
abbrev numbers : Reader → CReader
numbers r = c_reader (escapes_number r.escapes) r

numbers_back : (r : Reader) → reader_for (numbers r) ≡ r
numbers_back r = reader_back (escapes_number r.escapes) r (escapes_back r.escapes)

pub reader_once : (r s : Reader) → numbers r ≡ numbers s → r ≡ s
reader_once r s e = sym (numbers_back r) ∙ ap reader_for e ∙ numbers_back s

-- ---- soundness

pending_same : (m : Mode) (rest : Bool) → (pending_ok m ≡ false → rest ≡ false)
    → (mode_ok (mode_number m) (digit_number m) && rest) ≡ rest
pending_same (Skipping f) rest h = refl
pending_same (Open f) rest h = refl
pending_same Escape rest h = refl
pending_same (Digit d) rest h = go (leb d 15) refl
  where
    go : (t : Bool) → leb d 15 ≡ t → (leb d 15 && rest) ≡ rest
    go true e = rw e
    go false e = rw e (sym (h e))

not_pending : (a b : Bool) → b ≡ false → (a && b) ≡ false
not_pending true b e = e
not_pending false b e = refl

unsound : (r : Reader) → pending_ok r.mode ≡ false → sound_reader r ≡ false
unsound r e =
    let L = get_or r.bytes 0 0 in
    not_pending (eqb r.held 0 || length_ok L && leb r.held (L + beyond_length r.mode)) (pending_ok r.mode) e

-- sound in C's numbers is sound
pub sound_back : (n : ℕ) (r : Reader) → escapes_for n ≡ r.escapes → sound_c (c_reader n r) ≡ sound_reader r
unfolding sound_c
sound_back n r k =
    let back = ap sound_reader (reader_back n r k) in
    pending_same r.mode (sound_reader (reader_for (c_reader n r))) (λ e. back ∙ unsound r e) ∙ back

-- ---- the numbers that a call answers

pub answered_settled : (n : ℕ) (r : Reader) → settled (c_reader n r) ≡ true
answered_settled n r = of_mode r.mode
  where
    of_mode : (m : Mode) → settled (c_reader n (made r m r.escapes)) ≡ true
    of_mode (Skipping Binary) = refl
    of_mode (Skipping Ascii) = refl
    of_mode (Open Binary) = refl
    of_mode (Open Ascii) = refl
    of_mode Escape = refl
    of_mode (Digit d) = refl

-- framing, mode and digit of the reader that the numbers stand for
record Same (framing mode digit : ℕ) (m : Mode) : Type 0 where
  of_framing : framing_number (framing_of m) ≡ framing
  of_mode : mode_number m ≡ mode
  of_digit : digit_number m ≡ digit

settled_numbers : (framing mode digit : ℕ) → framing ≤ 1 → mode ≤ 3 → (mode ≡ 2 → framing ≡ 0)
    → (mode ≡ 3 → framing ≡ 1)
    → ((mode ≡ 3 → ⊥) → digit ≡ 0) → Same framing mode digit (mode_for (framing_for framing) mode digit)
settled_numbers zero zero d f m e g z =
    record { of_framing = refl; of_mode = refl; of_digit = sym (z (λ x. omega arith)) }
settled_numbers zero (suc zero) d f m e g z =
    record { of_framing = refl; of_mode = refl; of_digit = sym (z (λ x. omega arith)) }
settled_numbers zero (suc (suc zero)) d f m e g z =
    record { of_framing = refl; of_mode = refl; of_digit = sym (z (λ x. omega arith)) }
settled_numbers zero (suc (suc (suc n))) d f m e g z = absurd (let x = g (omega arith) in omega arith)
settled_numbers (suc zero) zero d f m e g z =
    record { of_framing = refl; of_mode = refl; of_digit = sym (z (λ x. omega arith)) }
settled_numbers (suc zero) (suc zero) d f m e g z =
    record { of_framing = refl; of_mode = refl; of_digit = sym (z (λ x. omega arith)) }
settled_numbers (suc zero) (suc (suc zero)) d f m e g z = absurd (let x = e refl in omega arith)
settled_numbers (suc zero) (suc (suc (suc zero))) d f m e g z =
    record { of_framing = refl; of_mode = refl; of_digit = refl }
settled_numbers (suc zero) (suc (suc (suc (suc n)))) d f m e g z = absurd (omega arith)
settled_numbers (suc (suc n)) mode d f m e g z = absurd (omega arith)

held_if : (t : Bool) (a b : ℕ) → cond t (eqb a b) true ≡ true → t ≡ true → a ≡ b
held_if true a b h e = eqb-true a b h
held_if false a b h e = absurd (false≢true e)

-- numbers that a call answers are those of their reader
pub settled_back : (c : CReader) → settled c ≡ true → c_reader c.escapes (reader_for c) ≡ c
settled_back c h =
    let x = both_true (leb c.framing 1 && leb c.mode 3 && cond (eqb c.mode 2) (eqb c.framing 0) true) _ h in
    let y = both_true (leb c.framing 1 && leb c.mode 3) _ x.0 in
    let w = both_true (leb c.framing 1) _ y.0 in
    let s : Same c.framing c.mode c.digit (mode_for (framing_for c.framing) c.mode c.digit) =
    settled_numbers c.framing c.mode c.digit (leb-true c.framing 1 w.0) (leb-true c.mode 3 w.1)
    (λ e. held_if (eqb c.mode 2) c.framing 0 y.1 (eq-eqb c.mode 2 e))
    (λ e. eqb-true c.framing 1 (rw (eq-eqb c.mode 3 e) at x.1))
    (λ e. eqb-true c.digit 0 (rw (ne_eqb c.mode 3 e) at x.1))
    in
    rw (s.of_framing, s.of_mode, s.of_digit)
