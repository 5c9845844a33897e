-- Each public function's promise settles its answer, and every byte of the lent buffer: two that meet the predicate
-- that its contract generates are equal. Assumes nothing.
use Prim.Native.Nat.{ℕ}
use mathlib.Core.Path.{◌≡◌, refl, sym, ap, ◌∙◌}
use mathlib.Core.Bool.{false≢true}
use mathlib.Core.List.{List}
use Rattle.std.specs.Prelude.{Option, None, Some, Result, Ok, Err}
use Rattle.std.specs.Borrow.{Bor}
use borrow.Fn.Kinds.{Dens, ended_of, res_t}
use contract.Lifetimes.{Lfts}
use denote.Triple.Clauses.{AtExit}
use Rattle.standard.specs.declared.Refusal.{Refusal}
use Rattle.standard.specs.Refusals.{number_in, Written, written_in}
use Rattle.standard.proofs.Sheet.{number_same, number_not_0, answers_same}
use Rattle.standard.proofs.Questions.{answer_settled}
use Rattle.station_log.specs.declared.Found.{Found}
use Rattle.station_log.specs.Log.{Place}
use Rattle.station_log.specs.Answers.{place_in, part_in, none_in}
use Rattle.station_log.proofs.find.Kinds as find-kinds
use Rattle.station_log.proofs.find.Reads as find
use Rattle.station_log.proofs.newest.Kinds as newest-kinds
use Rattle.station_log.proofs.newest.Reads as newest
use Rattle.station_log.proofs.keep.Kinds as keep-kinds
use Rattle.station_log.proofs.keep.Reads as keep
use Rattle.station_log.proofs.make_room.Kinds as make-room-kinds
use Rattle.station_log.proofs.make_room.Reads as make-room

-- what is said of an answer tells it
written_same : (x y : Result ℕ Refusal) → written_in x ≡ written_in y → x ≡ y
written_same x y p =
    answers_same 0 x y (ap (λ (w : Written). w.number) p) (ap (λ (w : Written). w.length) p)

pub places_same : (x y : Result (Option Found) Refusal) → place_in x ≡ place_in y → none_in x ≡ none_in y → x ≡ y
places_same (Ok None) (Ok None) p n = refl
places_same (Ok None) (Ok (Some g)) p n = absurd (false≢true (sym n))
places_same (Ok (Some f)) (Ok None) p n = absurd (false≢true n)
places_same (Ok (Some f)) (Ok (Some g)) p n = ap (λ (q : Place). Ok (Some (record { at = q.at; length = q.length }))) p
places_same (Ok None) (Err s) p n = absurd (number_not_0 s (sym (ap (λ (q : Place). q.number) p)))
places_same (Ok (Some f)) (Err s) p n = absurd (number_not_0 s (sym (ap (λ (q : Place). q.number) p)))
places_same (Err r) (Ok None) p n = absurd (number_not_0 r (ap (λ (q : Place). q.number) p))
places_same (Err r) (Ok (Some g)) p n = absurd (number_not_0 r (ap (λ (q : Place). q.number) p))
places_same (Err r) (Err s) p n = ap Err (number_same r s (ap (λ (q : Place). q.number) p))

-- an answer with the bytes of the part
abbrev pub shown : Result (Option (Bor (List ℕ))) Refusal → Result (Option (List ℕ)) Refusal
shown (Ok None) = Ok None
shown (Ok (Some part)) = Ok (Some part.now)
shown (Err refusal) = Err refusal

parts_same : (x y : Result (Option (Bor (List ℕ))) Refusal) → number_in x ≡ number_in y → part_in x ≡ part_in y
    → none_in x ≡ none_in y → shown x ≡ shown y
parts_same (Ok None) (Ok None) p b n = refl
parts_same (Ok None) (Ok (Some g)) p b n = absurd (false≢true (sym n))
parts_same (Ok (Some f)) (Ok None) p b n = absurd (false≢true n)
parts_same (Ok (Some f)) (Ok (Some g)) p b n = ap (λ l. Ok (Some l)) b
parts_same (Ok None) (Err s) p b n = absurd (number_not_0 s (sym p))
parts_same (Ok (Some f)) (Err s) p b n = absurd (number_not_0 s (sym p))
parts_same (Err r) (Ok None) p b n = absurd (number_not_0 r p)
parts_same (Err r) (Ok (Some g)) p b n = absurd (number_not_0 r p)
parts_same (Err r) (Err s) p b n = ap Err (number_same r s p)

pub find_unique : (κs : Lfts 1) (a : Dens κs find-kinds.ps) (e : AtExit (ended_of 1 find-kinds.ps find-kinds.r) κs)
    (x y : (res_t find-kinds.r κs).Denot) → find.Post κs a x e → find.Post κs a y e → x ≡ y
find_unique κs a e x y p q = places_same x y (p.says ∙ sym q.says) (p.none ∙ sym q.none)

-- the part that is handed back, wherever it stands in memory
pub newest_unique : (κs : Lfts 1) (a : Dens κs newest-kinds.ps)
    (e : AtExit (ended_of 1 newest-kinds.ps newest-kinds.r) κs)
    (x y : (res_t newest-kinds.r κs).Denot) → newest.Post κs a x e → newest.Post κs a y e → shown x ≡ shown y
newest_unique κs a e x y p q =
    let s = answer_settled p.0 q.0 in parts_same x y s.0 s.1 (p.1 ∙ sym q.1)

-- the answer, and the buffer, the first of the parameters
pub keep_unique : (κs : Lfts 2) (a : Dens κs keep-kinds.ps) (e e' : AtExit (ended_of 2 keep-kinds.ps keep-kinds.r) κs)
    (x y : (res_t keep-kinds.r κs).Denot) → keep.Post κs a x e → keep.Post κs a y e' → (x ≡ y) ×
    (e.0.now ≡ e'.0.now)
keep_unique κs a e e' x y p q = (written_same x y (p.says ∙ sym q.says), p.leaves ∙ sym q.leaves)

pub make_room_unique : (κs : Lfts 1) (a : Dens κs make-room-kinds.ps)
    (e e' : AtExit (ended_of 1 make-room-kinds.ps make-room-kinds.r) κs)
    (x y : (res_t make-room-kinds.r κs).Denot) → make-room.Post κs a x e → make-room.Post κs a y e'
    → (x ≡ y) × (e.0.now ≡ e'.0.now)
make_room_unique κs a e e' x y p q = (written_same x y (p.says ∙ sym q.says), p.leaves ∙ sym q.leaves)
