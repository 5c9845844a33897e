-- `station_log::keep` meets its contract: what is not refused has room for its record. Assumes nothing.
use Rattle.std.proofs.Common.{◌≡◌, ℕ, ◌+◌, Ok, Err, refl, sym, ap, ◌∙◌, List, [], ◌∷◌, length, length-append, arith}
use Rattle.std.proofs.lemmas.Result.{err_from_is_err_and}
use borrow.Author.Tests.{ne_eqb}
use Rattle.standard.specs.Words.{laid}
use Rattle.standard.specs.declared.Refusal.{Refusal}
use Rattle.standard.specs.Refusals.{refusal_number, written_in}
use Rattle.standard.proofs.Sheet.{number_not_0}
use Rattle.standard.proofs.Messages.{good_few}
use Rattle.standard.proofs.Status.{status_is}
use Rattle.station_log.specs.Log.{record_of, keep_refusal, added_of, after_keep, Keeps}
use Rattle.station_log.proofs.Refusing.{taken}
use Rattle.station_log.proofs.keep.Goals as goal

-- refused: the number, and the buffer as it was
refused : (log : List ℕ) (used : ℕ) (m : List ℕ) (refusal : Refusal) → refusal_number refusal ≡ keep_refusal log used m
    → Keeps log used m (written_in (Err refusal)) log
unfolding added_of after_keep
refused log used m refusal e =
    let no = ne_eqb (keep_refusal log used m) 0 (λ z. number_not_0 refusal (e ∙ z)) in
    record {
      says = rw no (ap (λ (k : ℕ). record { number = k; length = 0 }) e);
      leaves = rw no refl;
    }

-- kept: the record's length, and the record at its place
kept : (log : List ℕ) (used : ℕ) (m : List ℕ) {after : List ℕ} → keep_refusal log used m ≡ 0
    → after ≡ laid log used (record_of m) → Keeps log used m (written_in (Ok (length m + 1))) after
unfolding added_of after_keep
kept log used m h e =
    let size : length m + 1 ≡ length (record_of m) = sym (length-append m (length m ∷ [])) in
    record {
      says = rw h (ap (λ (k : ℕ). record { number = 0; length = k }) size);
      leaves = rw h e;
    }

pub returns-in_err-check_keep : goal.returns-in_err-check_keep
returns-in_err-check_keep c =
    let a = c.args in
    let p = err_from_is_err_and c.from_residual.result c.from_residual.ensures.1 in
    rw (p.1, p.2) (refused a.log.now a.used a.message.now c.in_err-check_keep.field-0.0 c.in_err-check_keep.ensures)

pub put-requires : goal.put-requires
put-requires c =
    let a = c.args in
    let m = a.message.now in
    let t = taken a.log.now a.used m (sym c.in_ok-check_keep.ensures) in
    let few = good_few m (status_is m t.kept).0 in
    let room = t.room.buffer in
    let size = length-append m (length m ∷ []) in
    (omega arith, omega arith)

pub returns : goal.returns
returns c =
    let a = c.args in
    kept a.log.now a.used a.message.now (sym c.in_ok-check_keep.ensures) c.put.ensures
