-- What `commands::take` does by value is done to the lent slots. Assumes nothing.
use Rattle.commands.specs.Commands.{take_of}
use Rattle.commands.proofs.NotEight.{take_not_eight}
use Rattle.slots.proofs.Line.{done}
use Rattle.slots.proofs.take.Goals as goal

pub returns : goal.returns
returns c =
    let xs = c.args.slots.now in
    done xs _ _ (take_of c.args.message.now xs) c.on_line.ensures.others (λ n. take_not_eight xs n c.args.message.now) c.on_line.ensures.eight
