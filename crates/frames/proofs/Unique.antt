-- Two answers that meet the contract of a public function are equal, with every byte of the memory that it is lent.
-- Assumes nothing.
use Rattle.std.proofs.Common.{◌≡◌, ℕ, List, sym, ◌∙◌, ap₂}
use borrow.Fn.Kinds.{Dens, ended_of, res_t}
use contract.Lifetimes.{Lfts}
use denote.Triple.Clauses.{AtExit}
use Rattle.standard.specs.declared.Framing.{Framing}
use Rattle.frames.specs.declared.Taken.{Taken}
use Rattle.frames.specs.Plain.{TakesPlain}
use Rattle.frames.proofs.length_ok.Kinds as length-ok-kinds
use Rattle.frames.proofs.length_ok.Reads as length_ok_lem
use Rattle.frames.proofs.before_start.Kinds as before-start-kinds
use Rattle.frames.proofs.before_start.Reads as before-start
use Rattle.frames.proofs.digit.Kinds as digit-kinds
use Rattle.frames.proofs.digit.Reads as digit
use Rattle.frames.proofs.beyond.Kinds as beyond-kinds
use Rattle.frames.proofs.beyond.Reads as beyond
use Rattle.frames.proofs.take_plain.Kinds as take-plain-kinds
use Rattle.frames.proofs.take_plain.Reads as take-plain
use Rattle.frames.proofs.plain.Kinds as plain-kinds
use Rattle.frames.proofs.plain.Reads as plain
use Rattle.frames.proofs.judge.Kinds as judge-kinds
use Rattle.frames.proofs.judge.Reads as judge

pub length_ok_unique : (κs : Lfts 0) (a : Dens κs length-ok-kinds.ps)
    (e : AtExit (ended_of 0 length-ok-kinds.ps length-ok-kinds.r) κs) (x y : (res_t length-ok-kinds.r κs).Denot)
    → length_ok_lem.Post κs a x e → length_ok_lem.Post κs a y e → x ≡ y
length_ok_unique κs a e x y p q = p ∙ sym q

pub before_start_unique : (κs : Lfts 1) (a : Dens κs before-start-kinds.ps)
    (e : AtExit (ended_of 1 before-start-kinds.ps before-start-kinds.r) κs) (x y : (res_t before-start-kinds.r κs).Denot)
    → before-start.Post κs a x e → before-start.Post κs a y e → x ≡ y
before_start_unique κs a e x y p q = p ∙ sym q

pub beyond_unique : (κs : Lfts 0) (a : Dens κs beyond-kinds.ps) (e : AtExit (ended_of 0 beyond-kinds.ps beyond-kinds.r) κs)
    (x y : (res_t beyond-kinds.r κs).Denot) → beyond.Post κs a x e → beyond.Post κs a y e → x ≡ y
beyond_unique κs a e x y p q = p ∙ sym q

pub digit_unique : (κs : Lfts 0) (a : Dens κs digit-kinds.ps) (e : AtExit (ended_of 0 digit-kinds.ps digit-kinds.r) κs)
    (x y : (res_t digit-kinds.r κs).Denot) → digit.Post κs a x e → digit.Post κs a y e → x ≡ y
digit_unique κs a e x y p q = p.0 ∙ sym q.0

pub plain_unique : (κs : Lfts 0) (a : Dens κs plain-kinds.ps) (e : AtExit (ended_of 0 plain-kinds.ps plain-kinds.r) κs)
    (x y : (res_t plain-kinds.r κs).Denot) → plain.Post κs a x e → plain.Post κs a y e → x ≡ y
plain_unique κs a e x y p q = p ∙ sym q

pub judge_unique : (κs : Lfts 1) (a : Dens κs judge-kinds.ps) (e : AtExit (ended_of 1 judge-kinds.ps judge-kinds.r) κs)
    (x y : (res_t judge-kinds.r κs).Denot) → judge.Post κs a x e → judge.Post κs a y e → x ≡ y
judge_unique κs a e x y p q = p ∙ sym q

abbrev taken : ℕ → ℕ → Taken
taken count used = record { count = count; used = used }

takes_one : (f : Framing) (n : ℕ) (frame bytes : List ℕ) (x y : Taken) (after later : List ℕ)
    → TakesPlain f n frame bytes x after → TakesPlain f n frame bytes y later → (x ≡ y) × (after ≡ later)
takes_one f n frame bytes x y after later p q =
    (ap₂ taken (p.count ∙ sym q.count) (p.used ∙ sym q.used), p.lays ∙ sym q.lays)

-- the answer, and the frame's array, which is the third of the parameters at exit
pub take_plain_unique : (κs : Lfts 2) (a : Dens κs take-plain-kinds.ps)
    (e e' : AtExit (ended_of 2 take-plain-kinds.ps take-plain-kinds.r) κs) (x y : (res_t take-plain-kinds.r κs).Denot)
    → take-plain.Post κs a x e → take-plain.Post κs a y e' → (x ≡ y) × (e.1.1.0.now ≡ e'.1.1.0.now)
take_plain_unique κs a e e' x y p q = takes_one _ _ _ _ x y _ _ p q
