-- Each of the 64 entries is what the document says of its number, by one computed test. Assumes nothing.
use Rattle.std.proofs.Common.{◌≡◌, ℕ, ◌<◌, Bool, List, T, eqb, get_or, length}
use lib.Dec.{eqb→eq}
use Rattle.standard.specs.Messages.{known, length_in}
use Rattle.standard.proofs.Tables.{every, at}
use Rattle.messages.proofs.listed.Goals as goal

abbrev right : ℕ → ℕ → Bool
right number length = eqb length (length_in known number)

-- `rw` finds the table in the goal; the test over the whole of it computes, to `Unit` where every entry is right
entry : (table : List ℕ) (number : ℕ) → T (every right 0 table) → number < length table
    → get_or table number 0 ≡ length_in known number
entry table number t h = eqb→eq (get_or table number 0) (length_in known number) (at right table t number h)

pub returns : goal.returns
returns c =
    let number : c.args.number < 64 = c.requires in
    let tested : Unit {0} = tt in
    rw entry
