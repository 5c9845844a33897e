-- Laws of the walk back that decides which records stay: THE PLACES REMEMBERED ARE THOSE OF THE RECORDS THAT STAY, and
-- there is a place left for each. Assumes nothing.
use Prim.Native.Nat.{ℕ, suc, ◌+◌, ◌-◌, ◌≤◌, ◌<◌}
use native.Mathlib.Nat.{le_refl}
use native.Mathlib.Omega.{arith}
use mathlib.Core.Path.{◌≡◌, refl, sym, ap, ap₂, subst, ◌∙◌}
use mathlib.Core.Bool.{true, false, cond, not}
use mathlib.Core.Option
use mathlib.Core.Option.{Option, none, some, map}
use mathlib.Core.List.{List, [], ◌∷◌, ◌++◌, append_assoc, append-nil}
use lib.ListN.{length, get_or, take, drop, set, replicate, length-append, get_or-append, length-drop, length-set}
use lib.Seq.{take_all, drop-length, get_or-append-add, drop-cons, drop-set-lt, get_or-set_same}
use borrow.Author.Tests.{eqb-true, not-true, not-false}
use Rattle.standard.specs.Words.{Bytes, byte}
use Rattle.standard.proofs.Framings.{bytes_front}
use Rattle.standard.proofs.Status.{status_length_lem}
use Rattle.station_log.specs.Log.{record_of, joined, all_kept, walked_back, records_of, sound}
use Rattle.station_log.specs.Room.{needless}
use Rattle.station_log.specs.Cells.{cells_most, is_new, noted, places_of, places_in}
use Rattle.station_log.proofs.Walking.{no_bytes, records_joined}
use Rattle.station_log.specs.Places.{Ends, EndsWithNone}
use Rattle.station_log.proofs.Backwards.{records_back, sound_back, sound_records, sound_at_end}
use Rattle.station_log.proofs.Celled.{cells_within}
use Rattle.station_log.proofs.Knowing.{Knows, knows_none, knows_more, new_needless, zeros, zeros_most, zeros_same}
use Rattle.station_log.proofs.Knowing.{zeros_fewer}

-- the places of the records that stay among those of some bytes, with later ones behind them
abbrev places_to : List ℕ → List (List ℕ) → List ℕ
places_to rest later = places_of later (Option.get_or (records_of rest) [])

-- the invariant: what is remembered, with what is still to come, are the places of the whole
pub record Going (log cells places rest : List ℕ) (first : ℕ) : Type 0 where
  pub few : length rest ≤ 65536
  pub bytes : Bytes rest
  pub later : List (List ℕ)
  pub knows : Knows cells later
  pub room : zeros 0 cells_most cells ≤ first
  pub top : first ≤ cells_most
  pub same : sound rest ≡ sound log
  pub told : sound log ≡ true → places_to rest later ++ drop first places ≡ places_in log

-- at the end of the log nothing is remembered
pub going_start : (log places : List ℕ) → length log ≤ 65536 → Bytes log → length places ≡ cells_most
    → Going log (replicate cells_most 0) places log cells_most
unfolding places_in
going_start log places few bytes n = record {
  few = few;
  bytes = bytes;
  later = [];
  knows = knows_none;
  room = zeros_most 0 cells_most (replicate cells_most 0);
  top = le_refl cells_most;
  same = refl;
  told = λ h.
      ap (λ (l : List ℕ). places_to log [] ++ l) (ap (λ (k : ℕ). drop k places) (sym n) ∙ drop-length places)
      ∙ append-nil (places_to log []);
}

-- ---- a turn

module _ {log cells places rest older m : List ℕ} {first : ℕ} (g : Going log cells places rest first)
    (t : Ends rest older m) where
  sizes : length rest ≡ length older + length m + 1
  sizes =
      let n = ap length t.bytes in
      let a = length-append older (record_of m) in
      let b = length-append m (length m ∷ []) in
      omega arith

  fewer_bytes : Bytes older
  fewer_bytes = bytes_front older (record_of m) (subst Bytes t.bytes g.bytes)

  small : byte 2 m < 256
  small =
      let s = status_length_lem m t.kept in
      subst (λ (k : ℕ). k < 256)
      (ap (λ (l : List ℕ). get_or l (length older + 1) 0) t.bytes
      ∙ get_or-append-add older (record_of m) 1 0
      ∙ get_or-append m (length m ∷ []) 0 1 (omega arith))
      (g.bytes (length older + 1))

  also : sound older ≡ sound log
  also = sound_back t ∙ g.same

  -- of the places still to come, this record's is the last, if it stays
  step : sound log ≡ true
      → places_to rest g.later
      ≡ places_to older (m ∷ g.later) ++ cond (needless g.later m) [] ((length rest - 1) ∷ [])
  unfolding places_of
  step h =
      let all = sound_records older (also ∙ h) in
      let ms = all.0 in
      let begins : length (joined ms) ≡ length older = ap length (sym (records_joined older ms all.1).bytes) in
      let n = sizes in
      let last : length (joined ms) + length m ≡ length rest - 1 = omega arith in
      ap (λ (w : Option (List (List ℕ))). places_of g.later (Option.get_or w []))
      (records_back t ∙ ap (map (λ ms. m ∷ ms)) all.1)
      ∙ ap (λ (k : ℕ). places_of (m ∷ g.later) ms ++ cond (needless g.later m) [] (k ∷ [])) last
      ∙ ap (λ (w : Option (List (List ℕ))).
      places_of (m ∷ g.later) (Option.get_or w []) ++ cond (needless g.later m) [] ((length rest - 1) ∷ [])) (sym all.1)

  new : is_new cells m ≡ not (needless g.later m)
  new = new_needless cells m g.later g.knows t.kept small

  -- it goes
  pub going_on : is_new cells m ≡ false → Going log (noted cells m) places older first
  going_on h =
      let n = sizes in
      let few = g.few in
      let fewer = zeros_same cells m g.later g.knows t.kept small 0 cells_most in
      let room = g.room in
      record {
        few = omega arith;
        bytes = fewer_bytes;
        later = m ∷ g.later;
        knows = knows_more cells m g.later g.knows t.kept small;
        room = omega arith;
        top = g.top;
        same = also;
        told = λ s. ap (λ (l : List ℕ). l ++ drop first places)
            (sym (step s ∙ ap (λ b. places_to older (m ∷ g.later) ++ cond b [] ((length rest - 1) ∷ [])) gone
            ∙ append-nil (places_to older (m ∷ g.later))))
            ∙ g.told s;
      }
    where
      gone : needless g.later m ≡ true
      gone = not-false (needless g.later m) (sym new ∙ h)

  -- it stays: a place is left for it
  pub one_left : is_new cells m ≡ true → 1 ≤ first
  one_left h =
      let w = cells_within m t.kept small in
      let fewer = zeros_fewer cells m g.later g.knows t.kept small 0 cells_most (omega arith) (omega arith) h in
      let room = g.room in
      omega arith

  pub going_kept : length places ≡ cells_most → is_new cells m ≡ true
      → Going log (noted cells m) (set places (first - 1) (length rest - 1)) older (first - 1)
  going_kept many h =
      let n = sizes in
      let few = g.few in
      let left = one_left h in
      let w = cells_within m t.kept small in
      let fewer = zeros_fewer cells m g.later g.knows t.kept small 0 cells_most (omega arith) (omega arith) h in
      let room = g.room in
      let top = g.top in
      record {
        few = omega arith;
        bytes = fewer_bytes;
        later = m ∷ g.later;
        knows = knows_more cells m g.later g.knows t.kept small;
        room = omega arith;
        top = omega arith;
        same = also;
        told = λ s.
            ap (λ (l : List ℕ). places_to older (m ∷ g.later) ++ l) (front left (omega arith))
            ∙ sym (append_assoc (places_to older (m ∷ g.later)) ((length rest - 1) ∷ []) (drop first places))
            ∙ ap (λ (l : List ℕ). l ++ drop first places)
            (sym (step s ∙ ap (λ b. places_to older (m ∷ g.later) ++ cond b [] ((length rest - 1) ∷ [])) stays))
            ∙ g.told s;
      }
    where
      stays : needless g.later m ≡ false
      stays = not-true (needless g.later m) (sym new ∙ h)

      front : 1 ≤ first → first - 1 < length places
          → drop (first - 1) (set places (first - 1) (length rest - 1)) ≡ (length rest - 1) ∷ drop first places
      front left inside =
          let size = length-set places (first - 1) (length rest - 1) in
          let next : suc (first - 1) ≡ first = omega arith in
          drop-cons (set places (first - 1) (length rest - 1)) (first - 1) 0 (omega arith)
          ∙ ap₂ ◌∷◌ (get_or-set_same places (first - 1) (length rest - 1) 0 inside)
          (ap (λ (k : ℕ). drop k (set places (first - 1) (length rest - 1))) next
          ∙ drop-set-lt first places (first - 1) (length rest - 1) (omega arith))

-- where the walk ends, at the beginning or before it
module _ {log cells places rest : List ℕ} {first : ℕ} (g : Going log cells places rest first) where
  pub going_all : EndsWithNone rest → length places ≡ cells_most → sound rest ≡ true
      → (sound log ≡ true) × (take (cells_most - first) (drop first places) ≡ places_in log)
  unfolding places_of records_of walked_back all_kept
  going_all h n s =
      let none = no_bytes rest (eqb-true (length rest) 0 (sound_at_end rest h ∙ s)) in
      let yes : sound log ≡ true = sym g.same ∙ s in (
        yes,
        take_all (cells_most - first) (drop first places) (rw (length-drop, n) (omega arith))
            ∙ ap (λ (l : List ℕ). places_to l g.later ++ drop first places) (sym none)
            ∙ g.told yes,
      )

  pub going_stopped : sound rest ≡ false → sound log ≡ false
  going_stopped s = sym g.same ∙ s
