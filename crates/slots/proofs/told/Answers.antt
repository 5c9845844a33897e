-- What `commands::told` does by value is done to the lent slots. Assumes nothing.
use Rattle.commands.specs.Commands.{told_of}
use Rattle.commands.proofs.NotEight.{told_not_eight}
use Rattle.slots.proofs.Line.{done}
use Rattle.slots.proofs.told.Goals as goal

pub returns : goal.returns
returns c =
    let xs = c.args.slots.now in
    done xs _ _ (told_of c.args.message.now xs) c.on_line.ensures.others (λ n. told_not_eight xs n c.args.message.now) c.on_line.ensures.eight
