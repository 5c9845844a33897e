-- Of one of the five numbers the length and the second byte decide, and no other message is one. Assumes nothing.
use Rattle.std.proofs.Common.{ℕ, ◌%◌, ◌&&◌, eqb, leb, length, refl, sym, ap₂, ◌∙◌, arith}
use mathlib.Core.Bool.{false≢true}
use Rattle.standard.specs.Words.{byte}
use Rattle.standard.proofs.Status.{five_number, short_status, other_status, status_by}
use Rattle.messages.proofs.is_status.Goals as goal

pub returns-then-n-lt2 : goal.returns-then-n-lt2
returns-then-n-lt2 c = sym (short_status c.args.message.now (omega arith))

pub returns-then-not-between : goal.returns-then-not-between
returns-then-not-between c =
    let m = c.args.message.now in
    let none = sym c.between.ensures ∙ c.if-not-between.true in
    sym (other_status m (λ b. false≢true (sym none ∙ five_number (byte 1 m % 128) b)))

pub returns : goal.returns
returns c =
    let m = c.args.message.now in
    let one = sym c.between.ensures ∙ c.if-not-between.false in
    ap₂ (λ (a b : ℕ). eqb (length m) a && leb (byte 2 m) b) c.status_length.ensures c.second_most.ensures
    ∙ sym (status_by m (byte 1 m % 128) refl one (omega (arith, c.type_inv.message 1)))
