-- What C gets of the line of commands, in numbers: nx584_sending of include/nx584.h. Assumes nothing.
use Rattle.commands.specs.Commands.{Answer}
use Rattle.nx584.specs.declared.CSending.{CSending}

abbrev pub c_answer : CSending → Answer
c_answer c = record { number = c.number; ended = c.ended; length = c.length; message = c.message }
