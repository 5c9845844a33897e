-- A group's counts are those of the run of its sixteen zones. Assumes nothing.
use Rattle.std.proofs.Common.{◌≡◌, refl, ℕ, suc, ◌*◌, ◌+◌, ◌<◌, List, ap, ◌∙◌, arith, Bool, true, false, cond, ◌&&◌, length, Result, Ok, Err, is_err, sym}
use Rattle.std.specs.Result.{result_unwrap_or}
use mathlib.Core.Bool.{false≢true}
use borrow.Author.Tests.{eq-eqb, lt-ltb, le-leb}
use Rattle.standard.specs.Table.{table_bytes, is_table}
use Rattle.standard.specs.declared.Refusal.{Refusal}
use Rattle.standard.specs.Refusals.{number_in, value_in}
use Rattle.standard.specs.Questions.{table_refusal, Answered}
use Rattle.standard.specs.Overview.{Counted, counted, heard_of, faulted_of, heard_from, faulted_from, none_heard, run_of, group_values}
use Rattle.standard.specs.declared.Counts.{Counts}
use Rattle.standard.specs.declared.Group.{Group}
use Rattle.standard.proofs.Seen.{Bounded, heard_zones, faulted_zones, group_bounded}
use Rattle.standard.proofs.Sheet.{number_not_0}
use Rattle.standard.proofs.Questions.{asked_whole, answer_value}
use lib.Dec.{ltb}

-- ---- what is refused

-- a table that is not refused has number 0, and one that is has another
pub not_refused : (r : Result (Unit {0}) Refusal) → is_err r ≡ false → number_in r ≡ 0
not_refused (Ok u) h = refl
not_refused (Err refusal) h = absurd (false≢true (sym h))

pub refused : (r : Result (Unit {0}) Refusal) → is_err r ≡ true → number_in r ≡ 0 → ⊥
refused (Ok u) h e = false≢true h
refused (Err refusal) h e = number_not_0 refusal e

-- what is told of a zone where nothing is refused
pub told : {refusal value n : ℕ} (r : Result ℕ Refusal) → n ≡ result_unwrap_or r 0
    → Answered 0 refusal value (number_in r) (value_in 0 r)
    → refusal ≡ 0
    → n ≡ value
told (Ok v) e a h = e ∙ answer_value a h
told (Err refusal) e a h = e ∙ answer_value a h

-- ---- groups

-- the counts, with the share that is made from them
abbrev pub shared : Counts → Counted
shared c = counted c.heard c.faulted

-- what the call answers
pub group_run : (t : List ℕ) (i : ℕ) → i < 16
    → shared (run_of t (16 * i) 16)
    ≡ cond (is_table t && ltb i 16) (counted (heard_of t (suc i)) (faulted_of t (suc i))) (counted 0 0)
unfolding run_of
group_run t i h = rw (lt-ltb i 16 h, le-leb (16 * i + 16) 256 (omega arith), heard_zones, faulted_zones) (go (is_table t))
  where
    go : (whole : Bool)
        → shared (cond (whole && true) (record { heard = heard_from t (16 * i) 16; faulted = faulted_from t (16 * i) 16 }) none_heard)
        ≡ cond (whole && true) (counted (heard_from t (16 * i) 16) (faulted_from t (16 * i) 16)) (counted 0 0)
    go true = refl
    go false = refl

-- of a table that is not refused they are the group's
pub group_seen : (t : List ℕ) (i : ℕ) (g : Group) → table_refusal t ≡ 0 → i < 16
    → group_values g ≡ cond (is_table t && ltb i 16) (counted (heard_of t (suc i)) (faulted_of t (suc i))) (counted 0 0)
    → group_values g ≡ counted (heard_of t (suc i)) (faulted_of t (suc i))
group_seen t i g whole h e = e ∙ rw (eq-eqb (length t) table_bytes (asked_whole t whole), lt-ltb i 16 h)

-- and in any case at most 16 are heard, and of those some faulted
pub told_few : (t : List ℕ) (i : ℕ) (g : Group) (seen : Bool)
    → group_values g ≡ cond seen (counted (heard_of t (suc i)) (faulted_of t (suc i))) (counted 0 0)
    → Bounded g.heard g.faulted 16
told_few t i g true e =
    let b = group_bounded t (suc i) in
    let h = ap (λ (c : Counted). c.heard) e in
    let f = ap (λ (c : Counted). c.faulted) e in
    record { among = omega arith; few = omega arith }
told_few t i g false e =
    let h = ap (λ (c : Counted). c.heard) e in
    let f = ap (λ (c : Counted). c.faulted) e in
    record { among = omega arith; few = omega arith }
