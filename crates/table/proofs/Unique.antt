-- Each public function's promise settles its answer, and every byte of what it was lent: two that meet the predicate
-- that its contract generates are equal. Assumes nothing.
use Prim.Native.Nat.{ℕ}
use mathlib.Core.Path.{◌≡◌, sym, ap, ◌∙◌}
use mathlib.Core.List.{List, []}
use Rattle.std.specs.Prelude.{Result, Ok, Err}
use Rattle.std.specs.Borrow.{Bor}
use borrow.Fn.Kinds.{Dens, ended_of, res_t}
use contract.Lifetimes.{Lfts}
use denote.Triple.Clauses.{AtExit}
use Rattle.standard.specs.declared.Refusal.{Refusal}
use Rattle.standard.specs.Refusals.{number_in, value_in}
use Rattle.standard.specs.Questions.{Answered}
use Rattle.standard.proofs.Sheet.{number_same, number_not_0, numbers_same, answers_same}
use Rattle.standard.proofs.Questions.{answer_settled}
use Rattle.table.specs.Answers.{part_in}
use Rattle.table.proofs.fresh.Kinds as fresh-kinds
use Rattle.table.proofs.fresh.Reads as fresh
use Rattle.table.proofs.check.Kinds as check-kinds
use Rattle.table.proofs.check.Reads as check
use Rattle.table.proofs.store.Kinds as store-kinds
use Rattle.table.proofs.store.Reads as store
use Rattle.table.proofs.apply.Kinds as apply-kinds
use Rattle.table.proofs.apply.Reads as apply
use Rattle.table.proofs.zone_mark.Kinds as zone-mark-kinds
use Rattle.table.proofs.zone_mark.Reads as zone_mark_lem
use Rattle.table.proofs.zone_short.Kinds as zone-short-kinds
use Rattle.table.proofs.zone_short.Reads as zone_short_lem
use Rattle.table.proofs.zone_heard.Kinds as zone-heard-kinds
use Rattle.table.proofs.zone_heard.Reads as zone-heard
use Rattle.table.proofs.zone_part.Kinds as zone-part-kinds
use Rattle.table.proofs.zone_part.Reads as zone-part
use Rattle.table.proofs.partition_part.Kinds as partition-part-kinds
use Rattle.table.proofs.partition_part.Reads as partition-part
use Rattle.table.proofs.system_part.Kinds as system-part-kinds
use Rattle.table.proofs.system_part.Reads as system-part

-- what is said of an answer tells it
answers : {refusal value : ℕ} (x y : Result ℕ Refusal) → Answered 0 refusal value (number_in x) (value_in 0 x)
    → Answered 0 refusal value (number_in y) (value_in 0 y) → x ≡ y
answers x y p q = let e = answer_settled p q in answers_same 0 x y e.0 e.1

-- an answer with the bytes of the part
abbrev pub shown : Result (Bor (List ℕ)) Refusal → Result (List ℕ) Refusal
shown (Ok part) = Ok part.now
shown (Err refusal) = Err refusal

parts_same : (x y : Result (Bor (List ℕ)) Refusal) → number_in x ≡ number_in y → part_in x ≡ part_in y
    → shown x ≡ shown y
parts_same (Ok part) (Ok other) n e = ap Ok e
parts_same (Ok part) (Err s) n e = absurd (number_not_0 s (sym n))
parts_same (Err r) (Ok other) n e = absurd (number_not_0 r n)
parts_same (Err r) (Err s) n e = ap Err (number_same r s n)

parts : {refusal : ℕ} {value : List ℕ} (x y : Result (Bor (List ℕ)) Refusal)
    → Answered [] refusal value (number_in x) (part_in x)
    → Answered [] refusal value (number_in y) (part_in y)
    → shown x ≡ shown y
parts x y p q = let e = answer_settled p q in parts_same x y e.0 e.1

pub fresh_unique : (κs : Lfts 0) (a : Dens κs fresh-kinds.ps) (e : AtExit (ended_of 0 fresh-kinds.ps fresh-kinds.r) κs)
    (x y : (res_t fresh-kinds.r κs).Denot) → fresh.Post κs a x e → fresh.Post κs a y e → x ≡ y
fresh_unique κs a e x y p q = p ∙ sym q

pub check_unique : (κs : Lfts 1) (a : Dens κs check-kinds.ps)
    (e : AtExit (ended_of 1 check-kinds.ps check-kinds.r) κs)
    (x y : (res_t check-kinds.r κs).Denot) → check.Post κs a x e → check.Post κs a y e → x ≡ y
check_unique κs a e x y p q = numbers_same x y (p ∙ sym q)

-- it says nothing; the table is the first of its parameters
pub store_unique : (κs : Lfts 2) (a : Dens κs store-kinds.ps)
    (e e' : AtExit (ended_of 2 store-kinds.ps store-kinds.r) κs)
    (x y : (res_t store-kinds.r κs).Denot) → store.Post κs a x e → store.Post κs a y e' → e.0.now ≡ e'.0.now
store_unique κs a e e' x y p q = p ∙ sym q

pub apply_unique : (κs : Lfts 2) (a : Dens κs apply-kinds.ps)
    (e e' : AtExit (ended_of 2 apply-kinds.ps apply-kinds.r) κs)
    (x y : (res_t apply-kinds.r κs).Denot) → apply.Post κs a x e → apply.Post κs a y e' → (x ≡ y) ×
    (e.0.now ≡ e'.0.now)
apply_unique κs a e e' x y p q = (numbers_same x y (p.says ∙ sym q.says), p.leaves ∙ sym q.leaves)

pub zone_mark_unique : (κs : Lfts 1) (a : Dens κs zone-mark-kinds.ps)
    (e : AtExit (ended_of 1 zone-mark-kinds.ps zone-mark-kinds.r) κs)
    (x y : (res_t zone-mark-kinds.r κs).Denot) → zone_mark_lem.Post κs a x e → zone_mark_lem.Post κs a y e → x ≡ y
zone_mark_unique κs a e x y p q = answers x y p q

pub zone_short_unique : (κs : Lfts 1) (a : Dens κs zone-short-kinds.ps)
    (e : AtExit (ended_of 1 zone-short-kinds.ps zone-short-kinds.r) κs)
    (x y : (res_t zone-short-kinds.r κs).Denot) → zone_short_lem.Post κs a x e → zone_short_lem.Post κs a y e → x ≡ y
zone_short_unique κs a e x y p q = answers x y p q

pub zone_heard_unique : (κs : Lfts 1) (a : Dens κs zone-heard-kinds.ps)
    (e : AtExit (ended_of 1 zone-heard-kinds.ps zone-heard-kinds.r) κs)
    (x y : (res_t zone-heard-kinds.r κs).Denot) → zone-heard.Post κs a x e → zone-heard.Post κs a y e → x ≡ y
zone_heard_unique κs a e x y p q = answers x y p q

-- the part that is handed back, wherever it stands in memory
pub zone_part_unique : (κs : Lfts 1) (a : Dens κs zone-part-kinds.ps)
    (e : AtExit (ended_of 1 zone-part-kinds.ps zone-part-kinds.r) κs)
    (x y : (res_t zone-part-kinds.r κs).Denot) → zone-part.Post κs a x e → zone-part.Post κs a y e → shown x ≡ shown y
zone_part_unique κs a e x y p q = parts x y p q

pub partition_part_unique : (κs : Lfts 1) (a : Dens κs partition-part-kinds.ps)
    (e : AtExit (ended_of 1 partition-part-kinds.ps partition-part-kinds.r) κs)
    (x y : (res_t partition-part-kinds.r κs).Denot) → partition-part.Post κs a x e → partition-part.Post κs a y e → shown x ≡ shown y
partition_part_unique κs a e x y p q = parts x y p q

pub system_part_unique : (κs : Lfts 1) (a : Dens κs system-part-kinds.ps)
    (e : AtExit (ended_of 1 system-part-kinds.ps system-part-kinds.r) κs)
    (x y : (res_t system-part-kinds.r κs).Denot) → system-part.Post κs a x e → system-part.Post κs a y e → shown x ≡ shown y
system_part_unique κs a e x y p q = parts x y p q
