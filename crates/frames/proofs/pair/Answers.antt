-- Answers for `frames::pair`: two characters are looked at together. Assumes nothing.
use Rattle.std.proofs.Common.{sym, ap, ◌∙◌, arith}
use Rattle.std.specs.Int.{w16, from_le_bytes}
use Rattle.frames.proofs.Eights.{too_few, two_few, two_looked, two_worth, two_other}
use Rattle.frames.proofs.pair.Goals as goal

pub returns-in_err-first_chunk : goal.returns-in_err-first_chunk
returns-in_err-first_chunk c = c.from_residual.ensures ∙ too_few c.args.bytes.now c.in_err-first_chunk.ensures.cases

pub overflow_cast-result : goal.overflow_cast-result
overflow_cast-result c =
    let chunk = c.in_ok-first_chunk.ensures.cases in
    let l = two_looked c.args.bytes.now _ _ (λ k. omega (arith, c.type_inv.bytes k)) chunk.enough
    (c.from_le_bytes-characters.ensures ∙ ap (from_le_bytes w16) chunk.same) c.worth-values.ensures in
    omega (arith, two_few c.args.bytes.now _ _ l chunk.enough (sym c.are_digits.ensures ∙ c.if-are_digits.true))

pub returns-then-are_digits : goal.returns-then-are_digits
returns-then-are_digits c =
    let chunk = c.in_ok-first_chunk.ensures.cases in
    let l = two_looked c.args.bytes.now _ _ (λ k. omega (arith, c.type_inv.bytes k)) chunk.enough
    (c.from_le_bytes-characters.ensures ∙ ap (from_le_bytes w16) chunk.same) c.worth-values.ensures in
    two_worth c.args.bytes.now _ _ l chunk.enough (sym c.are_digits.ensures ∙ c.if-are_digits.true)

pub returns-else-are_digits : goal.returns-else-are_digits
returns-else-are_digits c =
    let chunk = c.in_ok-first_chunk.ensures.cases in
    let l = two_looked c.args.bytes.now _ _ (λ k. omega (arith, c.type_inv.bytes k)) chunk.enough
    (c.from_le_bytes-characters.ensures ∙ ap (from_le_bytes w16) chunk.same) c.worth-values.ensures in
    two_other c.args.bytes.now _ _ l chunk.enough (sym c.are_digits.ensures ∙ c.if-are_digits.false)
