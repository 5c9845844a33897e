-- Assumes nothing.
use Rattle.std.proofs.Common.{◌≡◌, ◌≢◌, ℕ, ◌%◌, Some, None, sym, ap, ◌∙◌}
use borrow.Author.Tests.{eq-eqb, ne_eqb}
use Rattle.standard.specs.Words.{bit}
use Rattle.standard.specs.Messages.{known, length_in, length_for, length_asked}
use Rattle.messages.proofs.length_for.Goals as goal

bit_6 : (t : ℕ) → bit 6 t ≢ 0 → None ≡ length_asked t
unfolding length_for
bit_6 t set = rw (ne_eqb (bit 6 t) 0 set)

unlisted : (t : ℕ) → bit 6 t ≡ 0 → length_in known (t % 64) ≡ 0 → None ≡ length_asked t
unfolding length_for
unlisted t clear e = rw (eq-eqb (bit 6 t) 0 clear, e)

entry : (t : ℕ) → bit 6 t ≡ 0 → length_in known (t % 64) ≢ 0 → Some (length_in known (t % 64)) ≡ length_asked t
unfolding length_for
entry t clear e = rw (eq-eqb (bit 6 t) 0 clear, ne_eqb (length_in known (t % 64)) 0 e)

pub returns-then-type_byte-ne0 : goal.returns-then-type_byte-ne0
returns-then-type_byte-ne0 c = bit_6 c.args.type_byte c.if-type_byte-ne0.true

pub returns-then-length-eq0 : goal.returns-then-length-eq0
returns-then-length-eq0 c = unlisted c.args.type_byte c.if-type_byte-ne0.false (sym c.listed-length.ensures ∙ c.if-length-eq0.true)

pub returns-else-length-eq0 : goal.returns-else-length-eq0
returns-else-length-eq0 c =
    ap Some c.listed-length.ensures
    ∙ entry c.args.type_byte c.if-type_byte-ne0.false (λ e. c.if-length-eq0.false (c.listed-length.ensures ∙ e))
