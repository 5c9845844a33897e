-- Each public function's promise settles its answer, and the eight slots with every byte of them: two that meet the
-- predicate that its contract generates are equal. Assumes nothing.
use mathlib.Core.Path.{◌≡◌, sym, ap, ◌∙◌}
use borrow.Fn.Kinds.{Dens, ended_of, res_t}
use contract.Lifetimes.{Lfts}
use denote.Triple.Clauses.{AtExit}
use Rattle.commands.specs.declared.Called.{Called}
use Rattle.commands.specs.Commands.{After, after, answer_of}
use Rattle.commands.proofs.Endings.{answer_one}
use Rattle.commands.proofs.take.Kinds as take-kinds
use Rattle.commands.proofs.take.Reads as take
use Rattle.commands.proofs.tick.Kinds as tick-kinds
use Rattle.commands.proofs.tick.Reads as tick
use Rattle.commands.proofs.told.Kinds as told-kinds
use Rattle.commands.proofs.told.Reads as told

-- what a call leaves tells what it handed back
called_one : {x y : Called} {a : After}
    → after (answer_of x.answer) x.line ≡ a → after (answer_of y.answer) y.line ≡ a → x ≡ y
called_one {x} {y} {a} p q =
    let e = p ∙ sym q in
    let answer = answer_one (ap (λ (b : After). b.answer) e) in
    let line = ap (λ (b : After). b.slots) e in
    λ j. record { answer = answer j; line = line j }

pub take_unique : (κs : Lfts 1) (a : Dens κs take-kinds.ps) (e : AtExit (ended_of 1 take-kinds.ps take-kinds.r) κs)
    (x y : (res_t take-kinds.r κs).Denot) → take.Post κs a x e → take.Post κs a y e → x ≡ y
take_unique κs a e x y p q = called_one p q

pub tick_unique : (κs : Lfts 0) (a : Dens κs tick-kinds.ps) (e : AtExit (ended_of 0 tick-kinds.ps tick-kinds.r) κs)
    (x y : (res_t tick-kinds.r κs).Denot) → tick.Post κs a x e → tick.Post κs a y e → x ≡ y
tick_unique κs a e x y p q = called_one p q

pub told_unique : (κs : Lfts 1) (a : Dens κs told-kinds.ps) (e : AtExit (ended_of 1 told-kinds.ps told-kinds.r) κs)
    (x y : (res_t told-kinds.r κs).Denot) → told.Post κs a x e → told.Post κs a y e → x ≡ y
told_unique κs a e x y p q = called_one p q
