-- Answers for `frames::before_start`. Assumes nothing.
use Rattle.std.proofs.Common.{◌+◌, ◌-◌, eqb, length, take, drop, sym, ap, ◌∙◌, arith, rules}
use Rattle.std.proofs.lemmas.Slice.{between_to_end}
use borrow.Author.Tests.{tests}
use Rattle.std.proofs.lemmas.Iterator.{YieldsList-from_slice}
use Rattle.std.proofs.lemmas.Iterator.Search.{position_from_yields_List}
use Rattle.standard.specs.Stream.{up_to_start}
use Rattle.frames.proofs.Skips.{before, place_or}
use Rattle.frames.proofs.before_start.Goals as goal

pub returns : goal.returns
returns c =
    let x = c.args.start in
    let bytes = c.args.bytes.now in
    let passed = c.skip_blocks-passed.result in
    let rest = take (length bytes - passed) (drop passed bytes) in
    let all = between_to_end bytes passed (length bytes) (omega arith) in
    let at = position_from_yields_List (λ b. eqb b x) _ _ c.position.result c.position.ensures.ran
    (YieldsList-from_slice rest cc) (λ a b q k. search (rules, tests)) in
    ap (λ n. passed + n) (c.unwrap_or.ensures ∙ place_or x rest c.position.result at ∙ ap (λ l. length (up_to_start x l)) all)
    ∙ sym (before c.skip_blocks-passed.ensures)
