-- A command that is not refused fits its slot, and a slot is free for it. Assumes nothing.
use Rattle.std.proofs.Common.{ℕ, List, ap, ◌∙◌, length, slice_set, arith}
use Rattle.commands.specs.declared.Slot.{Slot}
use Rattle.commands.specs.Commands.{slot_of}
use Rattle.commands.proofs.Flag.{few_bytes}
use Rattle.commands.proofs.Slotwise.{puts}
use Rattle.commands.proofs.Held.{has_room}
use Rattle.commands.proofs.Refusing.{taken}
use Rattle.commands.proofs.place.Goals as goal

pub with_flag-requires-clause-message_len_bound : goal.with_flag-requires-clause-message_len_bound
with_flag-requires-clause-message_len_bound c = let ok = taken _ _ c.requires in few_bytes _ ok.good ok.one

pub offset_bounds-line-waiting : goal.offset_bounds-line-waiting
offset_bounds-line-waiting c = omega (arith, c.waiting.ensures, has_room c.args.message.now c.args.line c.requires)

pub bounds-line-waiting : goal.bounds-line-waiting
bounds-line-waiting c = omega (arith, c.waiting.ensures, has_room c.args.message.now c.args.line c.requires)

pub returns : goal.returns
returns c =
    let m = c.args.message.now in
    let xs = c.args.line in
    let new : List ℕ → Slot = λ b. record { length = length m; sent = 0; ticks = 0; message = b } in
    ap (λ (b : List ℕ). slice_set xs c.waiting.result (new b)) c.with_flag.ensures
    ∙ ap (λ (n : ℕ). slice_set xs n (slot_of m)) c.waiting.ensures
    ∙ puts (slot_of m) xs (taken m xs c.requires).sound (has_room m xs c.requires)
