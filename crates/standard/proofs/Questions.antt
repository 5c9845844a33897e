-- Laws of the questions about a table, and of what their answers promise. Assumes nothing.
use Prim.Native.Nat.{ℕ, ◌≤◌}
use native.Mathlib.Omega.{arith}
use mathlib.Core.Path.{◌≡◌, refl, sym, ap, ◌∙◌}
use mathlib.Core.Bool.{Bool, true, false, cond, not}
use mathlib.Core.List.{List, [], ◌∷◌}
use lib.Dec.{eqb, leb}
use lib.ListN.{length}
use borrow.Author.Tests.{eq-eqb, ne_eqb, eqb-true, leb-true}
use Rattle.standard.specs.Words.{first_of}
use Rattle.standard.specs.Table.{table_bytes, is_table}
use Rattle.standard.specs.Questions.{table_refusal, partition_refusal, Answered}

-- ---- refusals

-- by the two tests
asked_by : (t : List ℕ) (partition : ℕ) (whole few : Bool) → eqb (length t) table_bytes ≡ whole → leb partition 7 ≡ few
    → first_of ((not whole, 11) ∷ (not few, 8) ∷ []) ≡ 0 → (length t ≡ table_bytes) × (partition ≤ 7)
asked_by t partition true true e f z = (eqb-true (length t) table_bytes e, leb-true partition 7 f)
asked_by t partition true false e f z = absurd (omega arith)
asked_by t partition false few e f z = absurd (omega arith)

-- a question that is not refused is asked of a whole table, and of one of its partitions
pub asked_partition : (t : List ℕ) (partition : ℕ) → partition_refusal t partition ≡ 0
    → (length t ≡ table_bytes) × (partition ≤ 7)
unfolding partition_refusal
asked_partition t partition z = asked_by t partition (eqb (length t) table_bytes) (leb partition 7) refl refl z

-- the same of a question about a zone or the system
pub asked_whole : (t : List ℕ) → table_refusal t ≡ 0 → length t ≡ table_bytes
unfolding table_refusal
asked_whole t z = (asked_by t 0 (eqb (length t) table_bytes) true refl refl z).0

-- of a whole table it is not refused
pub whole_asked : (t : List ℕ) → length t ≡ table_bytes → table_refusal t ≡ 0
unfolding table_refusal
whole_asked t h = rw (eq-eqb (length t) table_bytes h)

-- a table is refused exactly where it has another length
pub whole_is : (t : List ℕ) → eqb (table_refusal t) 0 ≡ is_table t
unfolding table_refusal
whole_is t = go (is_table t)
  where
    go : (whole : Bool) → eqb (first_of ((not whole, 11) ∷ [])) 0 ≡ whole
    go true = refl
    go false = refl

-- where it is refused, its number is 11
pub refused_11 : (t : List ℕ) → (table_refusal t ≡ 0 → ⊥) → table_refusal t ≡ 11
unfolding table_refusal
refused_11 t = go (is_table t)
  where
    go : (whole : Bool) → (first_of ((not whole, 11) ∷ []) ≡ 0 → ⊥) → first_of ((not whole, 11) ∷ []) ≡ 11
    go true bad = absurd (bad refl)
    go false bad = refl

-- 11 comes before 8
pub partition_after : (t : List ℕ) (partition : ℕ)
    → partition_refusal t partition ≡ cond (eqb (table_refusal t) 0) (cond (leb partition 7) 0 8) (table_refusal t)
unfolding table_refusal partition_refusal
partition_after t partition = go (eqb (length t) table_bytes) (leb partition 7)
  where
    go : (whole few : Bool)
        → first_of ((not whole, 11) ∷ (not few, 8) ∷ [])
        ≡ cond (eqb (first_of ((not whole, 11) ∷ [])) 0) (cond few 0 8) (first_of ((not whole, 11) ∷ []))
    go true true = refl
    go true false = refl
    go false few = refl

-- ---- answers

module _ {A : Type 0} {none value : A} {refusal number : ℕ} where
  -- a number that is the refusal, and what goes with it
  pub answer_by : {answer : A} → number ≡ refusal → answer ≡ cond (eqb number 0) value none
      → Answered none refusal value number answer
  answer_by e h = record { says = e; gives = rw e at h }

  -- a refused answer
  pub answer_refused : number ≡ refusal → (number ≡ 0 → ⊥) → Answered none refusal value number none
  answer_refused e h = answer_by e (rw (ne_eqb number 0 h))

  -- an answer that is not refused
  pub answer_given : number ≡ refusal → number ≡ 0 → Answered none refusal value 0 value
  answer_given e h = record { says = sym h ∙ e; gives = rw (eq-eqb refusal 0 (sym e ∙ h)) }

  -- what a question that is not refused gives
  pub answer_value : {answer : A} → Answered none refusal value number answer → refusal ≡ 0 → answer ≡ value
  answer_value a h = rw (eq-eqb refusal 0 h) at a.gives

-- what is made of an answer answers the question about what is made of the value
pub answer_then : {A B : Type 0} (f : A → B) {none value : A} {refusal number : ℕ} {answer : A}
    → Answered none refusal value number answer → Answered (f none) refusal (f value) number (f answer)
answer_then f {none} {value} {refusal} a = record { says = a.says; gives = ap f a.gives ∙ go (eqb refusal 0) }
  where
    go : (ok : Bool) → f (cond ok value none) ≡ cond ok (f value) (f none)
    go true = refl
    go false = refl

-- two answers to a question are the same
pub answer_settled : {A : Type 0} {none value : A} {refusal m n : ℕ} {x y : A}
    → Answered none refusal value m x → Answered none refusal value n y → (m ≡ n) × (x ≡ y)
answer_settled a b = (a.says ∙ sym b.says, a.gives ∙ sym b.gives)
