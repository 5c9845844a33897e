-- Laws of the replies: a reply is told by its number, and no reply is replied to. Assumes nothing.
use Prim.Native.Nat.{ℕ, ◌+◌, ◌≤◌, ◌<◌}
use native.Mathlib.Omega.{arith}
use mathlib.Core.Path.{◌≡◌, refl, sym, ap, ◌∙◌}
use mathlib.Core.Bool.{cond}
use lib.Dec.{eqb}
use borrow.Author.Tests.{le-leb, lt-leb, eq-eqb, ne_eqb}
use Rattle.standard.specs.declared.Reply.{Reply}
use Rattle.standard.specs.declared.Reply.TheVariants.{Nothing, Acknowledge, NegativeAcknowledge, Rejected}
use Rattle.standard.specs.Messages.{number_of, flag_of, length_for}
use Rattle.standard.specs.Replies.{reply_number, good_reply, reply_of}

-- ---- the number of a reply

-- the reply of a number
abbrev reply_with : ℕ → Reply
reply_with n = cond (eqb n 0x1D) Acknowledge (cond (eqb n 0x1E) NegativeAcknowledge (cond (eqb n 0x1F) Rejected Nothing))

-- which gives each reply again
back : (r : Reply) → reply_with (reply_number r) ≡ r
back Nothing = refl
back Acknowledge = refl
back NegativeAcknowledge = refl
back Rejected = refl

-- two replies of one number are the same
pub reply_one : {a b : Reply} → reply_number a ≡ reply_number b → a ≡ b
reply_one {a} {b} e = sym (back a) ∙ ap reply_with e ∙ back b

-- "Replies have the flag clear"
pub reply_clear : (r : Reply) → reply_number r < 0x80
reply_clear Nothing = omega arith
reply_clear Acknowledge = omega arith
reply_clear NegativeAcknowledge = omega arith
reply_clear Rejected = omega arith

-- a reply is not replied to, "even with the flag set": acknowledging an acknowledge would never stop
pub reply_ends : (r : Reply) → (reply_of 0 (reply_number r) ≡ 0) × (reply_of 0 (reply_number r + 0x80) ≡ 0)
unfolding length_for reply_of
reply_ends Nothing = (refl, refl)
reply_ends Acknowledge = (refl, refl)
reply_ends NegativeAcknowledge = (refl, refl)
reply_ends Rejected = (refl, refl)

-- ---- to a good message, by its number

module _ (t : ℕ) where
  -- 1Dh by the flag
  pub good_status : number_of t ≤ 0x1B → good_reply t ≡ cond (flag_of t) 0x1D 0
  good_status h = rw (lt-leb 0x1C (number_of t) (omega arith), lt-leb 0x20 (number_of t) (omega arith))

  -- nothing to an acknowledge
  pub good_acknowledge : 0x1C ≤ number_of t → number_of t ≤ 0x1F → good_reply t ≡ 0
  good_acknowledge lo hi = rw (le-leb 0x1C (number_of t) lo, le-leb (number_of t) 0x1F hi)

  -- 1Fh to a request
  pub good_request : 0x20 ≤ number_of t → good_reply t ≡ 0x1F
  good_request h =
      rw (
        le-leb 0x1C (number_of t) (omega arith),
        lt-leb (number_of t) 0x1F (omega arith),
        le-leb 0x20 (number_of t) h,
        le-leb (number_of t) 0x3F (omega arith),
      )

-- ---- to a verdict, by its number

module _ (verdict t : ℕ) where
  -- verdicts 1 to 5; 6, 7 and 8 compute
  pub reply_negative : 1 ≤ verdict → verdict ≤ 5 → reply_of verdict t ≡ 0x1E
  unfolding reply_of
  reply_negative lo hi = rw (le-leb 1 verdict lo, le-leb verdict 5 hi)

  -- "Refusals 9 to 12, and any number not in the table, get no reply"; 15 is a verdict, and computes
  pub reply_none : 9 ≤ verdict → (verdict ≡ 15 → ⊥) → reply_of verdict t ≡ 0
  unfolding reply_of
  reply_none h other =
      rw (
        le-leb 1 verdict (omega arith),
        lt-leb verdict 5 (omega arith),
        ne_eqb verdict 7 (λ e. omega arith),
        ne_eqb verdict 15 other,
        ne_eqb verdict 6 (λ e. omega arith),
        ne_eqb verdict 8 (λ e. omega arith),
        ne_eqb verdict 0 (λ e. omega arith),
      )

-- to verdict 0, for a number that is one of the 41 and for one that is not
pub reply_unknown : (t : ℕ) → length_for t ≡ 0 → reply_of 0 t ≡ 0
unfolding reply_of
reply_unknown t h = rw (eq-eqb (length_for t) 0 h)

pub reply_good : (t : ℕ) → (length_for t ≡ 0 → ⊥) → reply_of 0 t ≡ good_reply t
unfolding reply_of
reply_good t h = rw (ne_eqb (length_for t) 0 h)
