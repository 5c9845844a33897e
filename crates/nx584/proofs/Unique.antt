-- Each exported function's contract settles its answer, and every byte of what it was lent: two answers that meet the
-- predicate that the contract generates are equal. Assumes nothing.
use mathlib.Core.Path.{◌≡◌, sym, ap, ◌∙◌}
use mathlib.Core.List.{List}
use borrow.Fn.Kinds.{Dens, ended_of, res_t}
use contract.Lifetimes.{Lfts}
use denote.Triple.Clauses.{AtExit}
use Rattle.commands.specs.declared.Slot.{Slot}
use Rattle.commands.specs.Commands.{Answer, After, after}
use Rattle.nx584.specs.declared.CSending.{CSending}
use Rattle.nx584.specs.Line.{c_answer}
use Rattle.nx584.proofs.nx584_fresh.Kinds as fresh-kinds
use Rattle.nx584.proofs.nx584_fresh.Reads as fresh
use Rattle.nx584.proofs.nx584_fresh_lenient.Kinds as lenient-kinds
use Rattle.nx584.proofs.nx584_fresh_lenient.Reads as lenient
use Rattle.nx584.proofs.nx584_read.Kinds as read-kinds
use Rattle.nx584.proofs.nx584_read.Reads as read
use Rattle.nx584.proofs.nx584_step.Kinds as step-kinds
use Rattle.nx584.proofs.nx584_step.Reads as step
use Rattle.nx584.proofs.nx584_write.Kinds as write-kinds
use Rattle.nx584.proofs.nx584_write.Reads as write
use Rattle.nx584.proofs.nx584_reply.Kinds as reply-kinds
use Rattle.nx584.proofs.nx584_reply.Reads as reply
use Rattle.nx584.proofs.nx584_apply.Kinds as apply-kinds
use Rattle.nx584.proofs.nx584_apply.Reads as apply
use Rattle.nx584.proofs.nx584_view.Kinds as view-kinds
use Rattle.nx584.proofs.nx584_view.Reads as view
use Rattle.nx584.proofs.nx584_hear.Kinds as hear-kinds
use Rattle.nx584.proofs.nx584_hear.Reads as hear
use Rattle.nx584.proofs.nx584_zone.Kinds as zone-kinds
use Rattle.nx584.proofs.nx584_zone.Reads as zone
use Rattle.nx584.proofs.nx584_partition.Kinds as partition-kinds
use Rattle.nx584.proofs.nx584_partition.Reads as partition
use Rattle.nx584.proofs.nx584_system.Kinds as system-kinds
use Rattle.nx584.proofs.nx584_system.Reads as system
use Rattle.nx584.proofs.nx584_take.Kinds as take-kinds
use Rattle.nx584.proofs.nx584_take.Reads as take
use Rattle.nx584.proofs.nx584_tick.Kinds as tick-kinds
use Rattle.nx584.proofs.nx584_tick.Reads as tick
use Rattle.nx584.proofs.nx584_told.Kinds as told-kinds
use Rattle.nx584.proofs.nx584_told.Reads as told
use Rattle.nx584.proofs.nx584_keep.Kinds as keep-kinds
use Rattle.nx584.proofs.nx584_keep.Reads as keep
use Rattle.nx584.proofs.nx584_make_room.Kinds as make-room-kinds
use Rattle.nx584.proofs.nx584_make_room.Reads as make-room
use Rattle.nx584.proofs.nx584_newest.Kinds as newest-kinds
use Rattle.nx584.proofs.nx584_newest.Reads as newest
use Rattle.nx584.proofs.nx584_grid.Kinds as grid-kinds
use Rattle.nx584.proofs.nx584_grid.Reads as grid
use Rattle.nx584.proofs.nx584_version.Kinds as version-kinds
use Rattle.nx584.proofs.nx584_version.Reads as version

pub nx584_fresh_unique : (κs : Lfts 0) (a : Dens κs fresh-kinds.ps)
    (e : AtExit (ended_of 0 fresh-kinds.ps fresh-kinds.r) κs)
    (x y : (res_t fresh-kinds.r κs).Denot) → fresh.Post κs a x e → fresh.Post κs a y e → x ≡ y
nx584_fresh_unique κs a e x y p q = p ∙ sym q

pub nx584_fresh_lenient_unique : (κs : Lfts 0) (a : Dens κs lenient-kinds.ps)
    (e : AtExit (ended_of 0 lenient-kinds.ps lenient-kinds.r) κs)
    (x y : (res_t lenient-kinds.r κs).Denot) → lenient.Post κs a x e → lenient.Post κs a y e → x ≡ y
nx584_fresh_lenient_unique κs a e x y p q = p ∙ sym q

pub nx584_read_unique : (κs : Lfts 1) (a : Dens κs read-kinds.ps)
    (e : AtExit (ended_of 1 read-kinds.ps read-kinds.r) κs)
    (x y : (res_t read-kinds.r κs).Denot) → read.Post κs a x e → read.Post κs a y e → x ≡ y
nx584_read_unique κs a e x y p q = p ∙ sym q

pub nx584_step_unique : (κs : Lfts 0) (a : Dens κs step-kinds.ps)
    (e : AtExit (ended_of 0 step-kinds.ps step-kinds.r) κs)
    (x y : (res_t step-kinds.r κs).Denot) → step.Post κs a x e → step.Post κs a y e → x ≡ y
nx584_step_unique κs a e x y p q = p ∙ sym q

pub nx584_write_unique : (κs : Lfts 2) (a : Dens κs write-kinds.ps)
    (e e' : AtExit (ended_of 2 write-kinds.ps write-kinds.r) κs)
    (x y : (res_t write-kinds.r κs).Denot) → write.Post κs a x e → write.Post κs a y e'
    → (x ≡ y) × (e.1.1.0.now ≡ e'.1.1.0.now)
nx584_write_unique κs a e e' x y p q = (p.says ∙ sym q.says, p.leaves ∙ sym q.leaves)

pub nx584_reply_unique : (κs : Lfts 0) (a : Dens κs reply-kinds.ps)
    (e : AtExit (ended_of 0 reply-kinds.ps reply-kinds.r) κs)
    (x y : (res_t reply-kinds.r κs).Denot) → reply.Post κs a x e → reply.Post κs a y e → x ≡ y
nx584_reply_unique κs a e x y p q = p ∙ sym q

pub nx584_apply_unique : (κs : Lfts 2) (a : Dens κs apply-kinds.ps)
    (e e' : AtExit (ended_of 2 apply-kinds.ps apply-kinds.r) κs)
    (x y : (res_t apply-kinds.r κs).Denot) → apply.Post κs a x e → apply.Post κs a y e'
    → (x ≡ y) × (e.0.now ≡ e'.0.now)
nx584_apply_unique κs a e e' x y p q = (p.says ∙ sym q.says, p.leaves ∙ sym q.leaves)

pub nx584_view_unique : (κs : Lfts 1) (a : Dens κs view-kinds.ps)
    (e : AtExit (ended_of 1 view-kinds.ps view-kinds.r) κs)
    (x y : (res_t view-kinds.r κs).Denot) → view.Post κs a x e → view.Post κs a y e → x ≡ y
nx584_view_unique κs a e x y p q = p ∙ sym q

pub nx584_hear_unique : (κs : Lfts 2) (a : Dens κs hear-kinds.ps)
    (e e' : AtExit (ended_of 2 hear-kinds.ps hear-kinds.r) κs)
    (x y : (res_t hear-kinds.r κs).Denot) → hear.Post κs a x e → hear.Post κs a y e'
    → (x ≡ y) × (e.1.0.now ≡ e'.1.0.now)
nx584_hear_unique κs a e e' x y p q = (p.says ∙ sym q.says, p.leaves ∙ sym q.leaves)

pub nx584_zone_unique : (κs : Lfts 1) (a : Dens κs zone-kinds.ps)
    (e : AtExit (ended_of 1 zone-kinds.ps zone-kinds.r) κs)
    (x y : (res_t zone-kinds.r κs).Denot) → zone.Post κs a x e → zone.Post κs a y e → x ≡ y
nx584_zone_unique κs a e x y p q = p ∙ sym q

pub nx584_partition_unique : (κs : Lfts 1) (a : Dens κs partition-kinds.ps)
    (e : AtExit (ended_of 1 partition-kinds.ps partition-kinds.r) κs)
    (x y : (res_t partition-kinds.r κs).Denot) → partition.Post κs a x e → partition.Post κs a y e → x ≡ y
nx584_partition_unique κs a e x y p q = p ∙ sym q

pub nx584_system_unique : (κs : Lfts 1) (a : Dens κs system-kinds.ps)
    (e : AtExit (ended_of 1 system-kinds.ps system-kinds.r) κs)
    (x y : (res_t system-kinds.r κs).Denot) → system.Post κs a x e → system.Post κs a y e → x ≡ y
nx584_system_unique κs a e x y p q = p ∙ sym q

-- the answer in numbers
abbrev numbered : Answer → CSending
numbered z = record { number = z.number; ended = z.ended; length = z.length; message = z.message }

settled : {z : After} {x y : CSending} {xs ys : List Slot} → after (c_answer x) xs ≡ z → after (c_answer y) ys ≡ z
    → (x ≡ y) × (xs ≡ ys)
settled p q = let e = p ∙ sym q in (ap (λ (w : After). numbered w.answer) e, ap (λ (w : After). w.slots) e)

pub nx584_take_unique : (κs : Lfts 2) (a : Dens κs take-kinds.ps)
    (e e' : AtExit (ended_of 2 take-kinds.ps take-kinds.r) κs)
    (x y : (res_t take-kinds.r κs).Denot) → take.Post κs a x e → take.Post κs a y e'
    → (x ≡ y) × (e.0.now ≡ e'.0.now)
nx584_take_unique κs a e e' x y p q = settled p q

pub nx584_tick_unique : (κs : Lfts 1) (a : Dens κs tick-kinds.ps)
    (e e' : AtExit (ended_of 1 tick-kinds.ps tick-kinds.r) κs)
    (x y : (res_t tick-kinds.r κs).Denot) → tick.Post κs a x e → tick.Post κs a y e'
    → (x ≡ y) × (e.0.now ≡ e'.0.now)
nx584_tick_unique κs a e e' x y p q = settled p q

pub nx584_told_unique : (κs : Lfts 2) (a : Dens κs told-kinds.ps)
    (e e' : AtExit (ended_of 2 told-kinds.ps told-kinds.r) κs)
    (x y : (res_t told-kinds.r κs).Denot) → told.Post κs a x e → told.Post κs a y e'
    → (x ≡ y) × (e.0.now ≡ e'.0.now)
nx584_told_unique κs a e e' x y p q = settled p q

pub nx584_version_unique : (κs : Lfts 0) (a : Dens κs version-kinds.ps)
    (e : AtExit (ended_of 0 version-kinds.ps version-kinds.r) κs)
    (x y : (res_t version-kinds.r κs).Denot) → version.Post κs a x e → version.Post κs a y e → x ≡ y
nx584_version_unique κs a e x y p q = p ∙ sym q

pub nx584_keep_unique : (κs : Lfts 2) (a : Dens κs keep-kinds.ps)
    (e e' : AtExit (ended_of 2 keep-kinds.ps keep-kinds.r) κs)
    (x y : (res_t keep-kinds.r κs).Denot) → keep.Post κs a x e → keep.Post κs a y e'
    → (x ≡ y) × (e.0.now ≡ e'.0.now)
nx584_keep_unique κs a e e' x y p q = (p.says ∙ sym q.says, p.leaves ∙ sym q.leaves)

pub nx584_make_room_unique : (κs : Lfts 1) (a : Dens κs make-room-kinds.ps)
    (e e' : AtExit (ended_of 1 make-room-kinds.ps make-room-kinds.r) κs)
    (x y : (res_t make-room-kinds.r κs).Denot) → make-room.Post κs a x e → make-room.Post κs a y e'
    → (x ≡ y) × (e.0.now ≡ e'.0.now)
nx584_make_room_unique κs a e e' x y p q = (p.says ∙ sym q.says, p.leaves ∙ sym q.leaves)

pub nx584_newest_unique : (κs : Lfts 1) (a : Dens κs newest-kinds.ps)
    (e : AtExit (ended_of 1 newest-kinds.ps newest-kinds.r) κs)
    (x y : (res_t newest-kinds.r κs).Denot) → newest.Post κs a x e → newest.Post κs a y e → x ≡ y
nx584_newest_unique κs a e x y p q = p ∙ sym q

-- the answer, the header's buffer and the cells'
pub nx584_grid_unique : (κs : Lfts 3) (a : Dens κs grid-kinds.ps)
    (e e' : AtExit (ended_of 3 grid-kinds.ps grid-kinds.r) κs)
    (x y : (res_t grid-kinds.r κs).Denot) → grid.Post κs a x e → grid.Post κs a y e'
    → (x ≡ y) × (e.1.1.0.now ≡ e'.1.1.0.now) × (e.1.1.1.0.now ≡ e'.1.1.1.0.now)
nx584_grid_unique κs a e e' x y p q =
    (p.says ∙ sym q.says, p.heads ∙ sym q.heads, p.leaves ∙ sym q.leaves)
