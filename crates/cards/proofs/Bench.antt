-- The definitions say of every card what the card says, by each rule of escapes. Assumes nothing.
use mathlib.Core.Path.{◌≡◌, refl}
use mathlib.Core.List.{map, flat_map}
use Rattle.standard.specs.declared.Escapes.{Escapes}
use Rattle.standard.specs.declared.Escapes.TheVariants.{Strict, Lenient}
use Rattle.standard.specs.Words.{up_to, total}
use Rattle.standard.specs.Text.{characters}
use Rattle.standard.specs.Sums.{prefixes, sums_of}
use Rattle.standard.specs.Messages.{length_for, values_ok}
use Rattle.standard.specs.Framing.{unstuff, digits_of, pairs}
use Rattle.standard.specs.Judge.{whole_of}
use Rattle.standard.specs.Replies.{reply_of}
use Rattle.standard.specs.Table.{fresh, stores_from, writes_of, done_all, apply_refusal, applied_to, table_after}
use Rattle.standard.specs.Overview.{heard_of, faulted_of}
use Rattle.standard.specs.Report.{report_on, report_of}
use Rattle.cards.specs.Cards.{noisy, marked, ours, cards, told_of}
use Rattle.cards.specs.Printed.{capture, printed, printed_noisy, of_lines}

pub bench : (rule : Escapes) → map (λ c. told_of rule c.line) (cards rule) ≡ map (λ c. c.told) (cards rule)
unfolding marked ours flat_map up_to total prefixes sums_of length_for values_ok unstuff digits_of pairs whole_of reply_of fresh
    stores_from writes_of done_all apply_refusal applied_to table_after
bench Strict = refl
bench Lenient = refl

-- card 13, the only one of the paper that says what is printed
pub report : report_of capture ≡ of_lines printed
unfolding of_lines characters report_on heard_of faulted_of flat_map up_to total prefixes sums_of length_for values_ok unstuff
    whole_of reply_of fresh stores_from writes_of done_all apply_refusal applied_to table_after
report = refl

-- nxread reads by the old rule
pub report_noisy : report_of noisy ≡ of_lines printed_noisy
unfolding of_lines characters report_on heard_of faulted_of flat_map up_to total prefixes sums_of length_for values_ok unstuff
    whole_of reply_of fresh stores_from writes_of done_all apply_refusal applied_to table_after
report_noisy = refl
