-- Each public function's promise settles its answer, and every slot that it was lent: two that meet the predicate that its
-- contract generates are equal. Assumes nothing.
use mathlib.Core.Path.{◌≡◌, sym, ap, ◌∙◌}
use mathlib.Core.List.{List}
use borrow.Fn.Kinds.{Dens, ended_of, res_t}
use contract.Lifetimes.{Lfts}
use denote.Triple.Clauses.{AtExit}
use Rattle.std.specs.Prelude.{Result}
use Rattle.standard.specs.declared.Refusal.{Refusal}
use Rattle.commands.specs.declared.Slot.{Slot}
use Rattle.commands.specs.declared.Sending.{Sending}
use Rattle.commands.specs.Commands.{After, answer_of, after}
use Rattle.commands.proofs.Endings.{answer_one}
use Rattle.slots.proofs.take.Kinds as take-kinds
use Rattle.slots.proofs.take.Reads as take
use Rattle.slots.proofs.tick.Kinds as tick-kinds
use Rattle.slots.proofs.tick.Reads as tick
use Rattle.slots.proofs.told.Kinds as told-kinds
use Rattle.slots.proofs.told.Reads as told

settled : {z : After} {x y : Result Sending Refusal} {xs ys : List Slot} → after (answer_of x) xs ≡ z → after (answer_of y) ys ≡ z
    → (x ≡ y) × (xs ≡ ys)
settled p q =
    let e = p ∙ sym q in (answer_one (ap (λ (w : After). w.answer) e), ap (λ (w : After). w.slots) e)

pub take_unique : (κs : Lfts 2) (a : Dens κs take-kinds.ps)
    (e e' : AtExit (ended_of 2 take-kinds.ps take-kinds.r) κs) (x y : (res_t take-kinds.r κs).Denot)
    → take.Post κs a x e → take.Post κs a y e' → (x ≡ y) × (e.0.now ≡ e'.0.now)
take_unique κs a e e' x y p q = settled p q

pub tick_unique : (κs : Lfts 1) (a : Dens κs tick-kinds.ps)
    (e e' : AtExit (ended_of 1 tick-kinds.ps tick-kinds.r) κs) (x y : (res_t tick-kinds.r κs).Denot)
    → tick.Post κs a x e → tick.Post κs a y e' → (x ≡ y) × (e.0.now ≡ e'.0.now)
tick_unique κs a e e' x y p q = settled p q

pub told_unique : (κs : Lfts 2) (a : Dens κs told-kinds.ps)
    (e e' : AtExit (ended_of 2 told-kinds.ps told-kinds.r) κs) (x y : (res_t told-kinds.r κs).Denot)
    → told.Post κs a x e → told.Post κs a y e' → (x ≡ y) × (e.0.now ≡ e'.0.now)
told_unique κs a e e' x y p q = settled p q
