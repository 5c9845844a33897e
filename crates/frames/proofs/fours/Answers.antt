-- Answers for `frames::fours`: eight characters are looked at together. Assumes nothing.
use Rattle.std.proofs.Common.{◌+◌, ◌*◌, ◌≤◌, [], ◌∷◌, length, get_or, take, drop, sym, ap, ◌∙◌, arith, get_or-drop}
use Rattle.std.proofs.lemmas.Slice.{between_to_end}
use Rattle.std.specs.Int.{w64, from_le_bytes}
use Rattle.standard.specs.Words.{Bytes}
use Rattle.frames.proofs.Plainly.{laid_four}
use Rattle.frames.proofs.Eights.{eight_looked, eight_worth}
use Rattle.frames.proofs.fours.Goals as goal

pub loop-i-preserved : goal.loop-i-preserved
loop-i-preserved c =
    let i = c.loop-i.i in
    let bytes = c.args.bytes.now in
    let bs = drop (2 * i) bytes in
    let all = between_to_end bytes (2 * i) (length bytes) (omega arith) in
    let chunk = c.in-Some.ensures.cases in
    let there : 8 ≤ length bs = omega (arith, chunk.enough, ap length all) in
    let few : Bytes bs = λ k. omega (arith, c.type_inv.bytes (2 * i + k), get_or-drop (2 * i) bytes k 0) in
    let n = c.from_le_bytes-characters.ensures ∙ ap (from_le_bytes w64) (chunk.same ∙ ap (take 8) all) in
    let l = eight_looked bs c.from_le_bytes-characters.result c.worth-values.result few there n c.worth-values.ensures in
    let w = eight_worth bs c.from_le_bytes-characters.result c.worth-values.result l there
    (sym c.are_digits.ensures ∙ c.if-not-are_digits.false) in
    let halves = ap (λ b. get_or b 0 0 ∷ get_or b 2 0 ∷ get_or b 4 0 ∷ get_or b 6 0 ∷ []) c.to_le_bytes.ensures in
    record {
      fits = omega (arith, c.loop-i-test.true);
      laid = laid_four c.loop-i.invariant.laid _ _ _ _ (halves ∙ w) (omega (arith, c.loop-i-test.true));
    }
