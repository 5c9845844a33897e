-- Two answers that meet the contract of a public function are equal. Assumes nothing.
use mathlib.Core.Path.{◌≡◌, sym, ◌∙◌}
use borrow.Fn.Kinds.{Dens, ended_of, res_t}
use contract.Lifetimes.{Lfts}
use denote.RattleType.{RattleType}
use denote.Param.Laws.{Laws, IsCopy}
use denote.Triple.Clauses.{AtExit}
use mir.Syntax.{Dict}
use Rattle.std.specs.declared.clone.Clone.{Ghosts}
use Rattle.standard.proofs.start_of.Kinds as start-of-kinds
use Rattle.standard.proofs.start_of.Reads as start_of_lem
use Rattle.standard.proofs.two_digits.Kinds as two-digits-kinds
use Rattle.standard.proofs.two_digits.Reads as two_digits
use Rattle.standard.proofs.Refusal.number.Kinds as number-kinds
use Rattle.standard.proofs.Refusal.number.Reads as number
use Rattle.standard.proofs.number_of.Kinds as number-of-kinds
use Rattle.standard.proofs.number_of.Reads as number-of
use Rattle.standard.proofs.reply_number.Kinds as reply-number-kinds
use Rattle.standard.proofs.reply_number.Reads as reply-number

pub start_of_unique : (κs : Lfts 0) (a : Dens κs start-of-kinds.ps)
    (e : AtExit (ended_of 0 start-of-kinds.ps start-of-kinds.r) κs) (x y : (res_t start-of-kinds.r κs).Denot)
    → start_of_lem.Post κs a x e → start_of_lem.Post κs a y e → x ≡ y
start_of_unique κs a e x y p q = p ∙ sym q

pub two_digits_unique : (κs : Lfts 0) (a : Dens κs two-digits-kinds.ps)
    (e : AtExit (ended_of 0 two-digits-kinds.ps two-digits-kinds.r) κs) (x y : (res_t two-digits-kinds.r κs).Denot)
    → two_digits.Post κs a x e → two_digits.Post κs a y e → x ≡ y
two_digits_unique κs a e x y p q = p ∙ sym q

pub reply_number_unique : (κs : Lfts 0) (a : Dens κs reply-number-kinds.ps)
    (e : AtExit (ended_of 0 reply-number-kinds.ps reply-number-kinds.r) κs) (x y : (res_t reply-number-kinds.r κs).Denot)
    → reply-number.Post κs a x e → reply-number.Post κs a y e → x ≡ y
reply_number_unique κs a e x y p q = p ∙ sym q

pub number_unique : (κs : Lfts 0) (a : Dens κs number-kinds.ps)
    (e : AtExit (ended_of 0 number-kinds.ps number-kinds.r) κs) (x y : (res_t number-kinds.r κs).Denot)
    → number.Post κs a x e → number.Post κs a y e → x ≡ y
number_unique κs a e x y p q = p ∙ sym q

-- of an answer of every type
pub number_of_unique : (T : RattleType) (L : Laws T) (C : IsCopy T) (G : Ghosts T.Denot) (d : Dict) (κs : Lfts 1)
    (a : Dens κs (number-of-kinds.ps T L C))
    (e : AtExit (ended_of 1 (number-of-kinds.ps T L C) (number-of-kinds.r T L C)) κs)
    (x y : (res_t (number-of-kinds.r T L C) κs).Denot)
    → number-of.Post T L C G d κs a x e → number-of.Post T L C G d κs a y e → x ≡ y
number_of_unique T L C G d κs a e x y p q = p ∙ sym q
