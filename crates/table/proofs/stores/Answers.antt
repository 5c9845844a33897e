-- `table::stores` meets its contract: what is not one of the five, and good, leaves the table. Assumes nothing.
use Rattle.std.proofs.Common.{◌≡◌, false, sym, ap, ◌∙◌}
use lib.Seq.{take-length}
use Rattle.standard.specs.Messages.{is_status}
use Rattle.standard.proofs.Stored.{other_keeps}
use Rattle.table.proofs.stores.Goals as goal

pub returns-else-stored-clause-table_after : goal.returns-else-stored-clause-table_after
returns-else-stored-clause-table_after c =
    let m = c.args.message.now in
    let no : is_status m ≡ false = ap is_status (sym (take-length m)) ∙ sym c.is_status-stored.ensures ∙ c.if-stored.false in
    cc (other_keeps c.args.table.now m no, c.in-Some.ensures.cases.same)
