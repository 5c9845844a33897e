-- As many slots as wait move up by one. Assumes nothing.
use Rattle.std.proofs.Common.{ℕ, List, ap, ◌∙◌, ◌-◌, slice_set, arith}
use Rattle.std.specs.List.{copy_within}
use Rattle.commands.specs.declared.Slot.{Slot}
use Rattle.commands.specs.Commands.{blank}
use Rattle.commands.proofs.Held.{some_wait}
use Rattle.commands.proofs.Slotwise.{waits_most, moves}
use Rattle.commands.proofs.Outstanding.moved_up.Goals as goal

pub copy_within-requires-clause-start_le_end : goal.copy_within-requires-clause-start_le_end
copy_within-requires-clause-start_le_end c =
    omega (arith, c.waiting-used.ensures, some_wait c.args.self.now.line c.args.self.now.used c.args.self.now.sound)

pub copy_within-requires-clause-in_bounds : goal.copy_within-requires-clause-in_bounds
copy_within-requires-clause-in_bounds c = omega (arith, c.waiting-used.ensures, waits_most c.args.self.now.line)

pub copy_within-requires-clause-dest_in_bounds : goal.copy_within-requires-clause-dest_in_bounds
copy_within-requires-clause-dest_in_bounds c =
    omega (arith, c.waiting-used.ensures, waits_most c.args.self.now.line)

pub overflow_sub-line : goal.overflow_sub-line
overflow_sub-line c =
    omega (arith, c.waiting-used.ensures, some_wait c.args.self.now.line c.args.self.now.used c.args.self.now.sound)

pub returns : goal.returns
returns c =
    let xs = c.args.self.now.line in
    let ok = c.args.self.now.sound in
    ap (λ (l : List Slot). slice_set l (c.waiting-used.result - 1) blank) c.copy_within.ensures.after
    ∙ ap (λ (n : ℕ). slice_set (copy_within xs 1 n 0) (n - 1) blank) c.waiting-used.ensures
    ∙ moves xs ok (some_wait xs c.args.self.now.used ok)
