-- Each answer is that of the first test that holds. Assumes nothing.
use Rattle.std.proofs.Common.{◌≡◌, ◌≢◌, ℕ, ◌<◌, ◌≤◌, ◌==◌, Bool, inl, inr, List, true, false, length, sym, ◌∙◌, arith}
use native.Mathlib.Nat.{mod-lt}
use lib.Dec.{lit<}
use borrow.Author.Tests.{eqb-true, eqb-false, eq-eqb, ne_eqb, le-leb, lt-leb}
use Rattle.standard.specs.Words.{byte}
use Rattle.standard.specs.Messages.{longest, number_of, length_for, values_ok, check_of}
use Rattle.standard.proofs.Messages.{Length, length_number, number_length, asked_none, asked_some}
use Rattle.messages.proofs.check.Goals as goal

module _ (m : List ℕ) where
  empty : length m ≡ 0 → 4 ≡ check_of m
  unfolding check_of
  empty e = rw e

  long : longest < length m → 4 ≡ check_of m
  unfolding check_of
  long h = rw (le-leb 1 (length m) (omega arith), lt-leb (length m) longest h)

  module _ (sized : Length (length m)) where
    unknown : length_for (byte 1 m) ≡ 0 → 6 ≡ check_of m
    unfolding check_of
    unknown e = rw (le-leb _ _ sized.some, le-leb _ _ sized.few, e)

    module _ (known : length_for (byte 1 m) ≢ 0) where
      other : length m ≢ length_for (byte 1 m) → 7 ≡ check_of m
      unfolding check_of
      other h = rw (le-leb _ _ sized.some, le-leb _ _ sized.few, ne_eqb _ 0 known, ne_eqb _ _ h)

      module _ (whole : length m ≡ length_for (byte 1 m)) where
        good : values_ok (number_of (byte 1 m)) m ≡ true → 0 ≡ check_of m
        unfolding check_of
        good v = rw (le-leb _ _ sized.some, le-leb _ _ sized.few, ne_eqb _ 0 known, eq-eqb _ _ whole, v)

        wrong : values_ok (number_of (byte 1 m)) m ≡ false → 8 ≡ check_of m
        unfolding check_of
        wrong v = rw (le-leb _ _ sized.some, le-leb _ _ sized.few, ne_eqb _ 0 known, eq-eqb _ _ whole, v)

        of_number : length m ≡ length_for (number_of (byte 1 m))
        of_number =
            whole
            ∙ length_number (byte 1 m) known
            ∙ sym (number_length (number_of (byte 1 m)) (mod-lt (byte 1 m) (lit< tt)))

some : {n : ℕ} {b : Bool} → b ≡ false → b ≡ n == 0 → n ≤ 255 → Length n
some {n} e d few = record { some = positive n (sym d ∙ e); few = few }
  where
    positive : (n : ℕ) → n == 0 ≡ false → 1 ≤ n
    positive n h = let other : n ≡ 0 → ⊥ = eqb-false n 0 h in omega arith

pub returns-then-is_empty : goal.returns-then-is_empty
returns-then-is_empty c =
    elim c.then-is_empty.either [
      | inl is ↦ empty c.args.message.now (eqb-true _ _ (sym c.is_empty.ensures ∙ is))
      | inr is ↦ long c.args.message.now is.1
    ]

pub returns-in_default : goal.returns-in_default
returns-in_default c =
    unknown c.args.message.now (some c.if-is_empty.false c.is_empty.ensures c.if-message-gt-LONGEST.false)
    (asked_none _ (sym c.length_for.ensures ∙ c.in_default.is))

pub returns-then-message-length : goal.returns-then-message-length
returns-then-message-length c =
    let asked = asked_some _ c.in-Some.length (sym c.length_for.ensures ∙ c.in-Some.is) in
    other c.args.message.now (some c.if-is_empty.false c.is_empty.ensures c.if-message-gt-LONGEST.false) asked.some
    (λ e. c.if-message-length.true (e ∙ asked.is))

pub values_ok-requires : goal.values_ok-requires
values_ok-requires c =
    let asked = asked_some _ c.in-Some.length (sym c.length_for.ensures ∙ c.in-Some.is) in
    of_number c.args.message.now (some c.if-is_empty.false c.is_empty.ensures c.if-message-gt-LONGEST.false) asked.some
    (c.if-message-length.false ∙ sym asked.is)

pub returns-then-values_ok : goal.returns-then-values_ok
returns-then-values_ok c =
    let asked = asked_some _ c.in-Some.length (sym c.length_for.ensures ∙ c.in-Some.is) in
    good c.args.message.now (some c.if-is_empty.false c.is_empty.ensures c.if-message-gt-LONGEST.false) asked.some
    (c.if-message-length.false ∙ sym asked.is) (sym c.values_ok.ensures ∙ c.if-values_ok.true)

pub returns-else-values_ok : goal.returns-else-values_ok
returns-else-values_ok c =
    let asked = asked_some _ c.in-Some.length (sym c.length_for.ensures ∙ c.in-Some.is) in
    wrong c.args.message.now (some c.if-is_empty.false c.is_empty.ensures c.if-message-gt-LONGEST.false) asked.some
    (c.if-message-length.false ∙ sym asked.is) (sym c.values_ok.ensures ∙ c.if-values_ok.false)
