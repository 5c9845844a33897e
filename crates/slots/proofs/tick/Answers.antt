-- What `commands::tick` does by value is done to the lent slots. Assumes nothing.
use Rattle.commands.specs.Commands.{tick_of}
use Rattle.commands.proofs.NotEight.{tick_not_eight}
use Rattle.slots.proofs.Line.{done}
use Rattle.slots.proofs.tick.Goals as goal

pub returns : goal.returns
returns c =
    let xs = c.args.slots.now in
    done xs _ _ (tick_of xs) c.on_line.ensures.others (λ n. tick_not_eight xs n) c.on_line.ensures.eight
