-- `table::apply` meets its contract: what is stored is not refused, and else the refusals are asked in their order.
-- Assumes nothing.
use Rattle.std.proofs.Common.{◌≡◌, ℕ, true, ◌&&◌, List, length, take, sym, ap, ◌∙◌}
use Rattle.std.proofs.lemmas.Result.{err_from_is_err_and}
use lib.Seq.{take-length}
use borrow.Author.Tests.{eqb-true, ne_eqb}
use Rattle.standard.specs.Messages.{check_of, is_status}
use Rattle.standard.specs.Table.{table_bytes, is_table, apply_refusal, applied_to}
use Rattle.standard.specs.Questions.{table_refusal}
use Rattle.standard.proofs.Messages.{both_true}
use Rattle.standard.proofs.Sheet.{number_not_0}
use Rattle.standard.proofs.Applied.{refusal_after, taken_says, applied_refusal}
use Rattle.standard.proofs.Stored.{taken}
use Rattle.table.proofs.apply.Goals as goal

not_refused : (t m : List ℕ) → (is_table t && is_status m) ≡ true → apply_refusal t m ≡ 0
not_refused t m h =
    let b = both_true (is_table t) (is_status m) h in
    taken_says (taken t m (eqb-true (length t) table_bytes b.0) b.1)

-- what was handed on is the whole message
whole : (t m : List ℕ) {after : List ℕ} → after ≡ applied_to t (take (length m) m) → after ≡ applied_to t m
whole t m e = e ∙ ap (applied_to t) (take-length m)

-- and the table that is asked has its length still
asked : (t m : List ℕ) {number : ℕ} {after : List ℕ} → after ≡ applied_to t m → number ≡ table_refusal after
    → number ≡ table_refusal t
asked t m e h = h ∙ ap table_refusal e ∙ applied_refusal t m

-- the table's refusal comes first, and then the message's
first : (t m : List ℕ) {number : ℕ} → number ≡ table_refusal t → (number ≡ 0 → ⊥) → number ≡ apply_refusal t m
first t m e h = e ∙ sym (rw (ne_eqb (table_refusal t) 0 (λ z. h (e ∙ z))) at (refusal_after t m))

second : (t m : List ℕ) {number : ℕ} → 0 ≡ table_refusal t → number ≡ check_of m → number ≡ apply_refusal t m
second t m e h = h ∙ sym (rw (← e) at (refusal_after t m))

pub returns-then-stores : goal.returns-then-stores
returns-then-stores c =
    let t = c.args.table.now in
    let m = c.args.message.now in
    let stored =
    sym (c.stores.ensures.value ∙ ap (λ m. is_table t && is_status m) (take-length m)) ∙ c.if-stores.true in
    record { says = sym (not_refused t m stored); leaves = whole t m c.stores.ensures.table_after }

pub returns-in_err-check : goal.returns-in_err-check
returns-in_err-check c =
    let t = c.args.table.now in
    let m = c.args.message.now in
    let left = whole t m c.stores.ensures.table_after in
    let refused = asked t m left c.in_err-check.ensures in
    let p = err_from_is_err_and c.from_residual.result c.from_residual.ensures.1 in
    rw (p.1, p.2) (record { says = first t m refused (number_not_0 c.in_err-check.field-0.0); leaves = left })

pub returns : goal.returns
returns c =
    let t = c.args.table.now in
    let m = c.args.message.now in
    let left = whole t m c.stores.ensures.table_after in
    record {
      says = second t m (asked t m left c.in_ok-check.ensures) (c.check-2.ensures ∙ ap check_of (take-length m));
      leaves = left;
    }
