-- Answers for `frames::has_start`. Assumes nothing.
use Rattle.std.proofs.Common.{eqb, ◌||◌, ◌∙◌, rules}
use borrow.Author.Tests.{tests}
use Rattle.std.proofs.lemmas.Iterator.{YieldsList-from_slice}
use Rattle.std.proofs.lemmas.Iterator.Consumers.{fold_from_yields_List}
use Rattle.frames.proofs.Skips.{fold_among}
use Rattle.frames.proofs.has_start.Goals as goal

pub returns : goal.returns
returns c =
    let x = c.args.start in
    fold_from_yields_List _ (λ found b. found || eqb x b) _ c.fold.result c.fold.ensures.ran
    (YieldsList-from_slice c.args.part.now cc) (λ a b r q k. search (rules, tests))
    ∙ fold_among x c.args.part.now
