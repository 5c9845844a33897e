-- A LOG THAT WAS MADE SMALLER HOLDS AT MOST 256 RECORDS OF 04h, 256 OF 05h, EIGHT OF 06h, ONE OF 07h AND ONE OF 08h, so
-- at most 5,223 bytes: each that stays has a cell of its own number that nothing later writes. Assumes nothing.
use Prim.Native.Nat.{ℕ, ◌+◌, ◌*◌, ◌≤◌, ◌<◌}
use native.Mathlib.Omega.{arith}
use mathlib.Core.Path.{◌≡◌, refl, ap, subst, ◌∙◌}
use mathlib.Core.Bool.{Bool, true, false, cond, not}
use mathlib.Core.List.{List, [], ◌∷◌}
use lib.Dec.{eqb}
use lib.ListN.{length, replicate, length-append}
use borrow.Author.Tests.{eqb-true}
use Rattle.standard.specs.Words.{byte}
use Rattle.standard.specs.Messages.{known, length_in, number_of, is_status}
use Rattle.standard.proofs.Messages.{passed, passed_number}
use Rattle.standard.proofs.Status.{status_cases, status_is}
use Rattle.station_log.specs.Log.{record_of, joined}
use Rattle.station_log.specs.Room.{needless, kept_of}
use Rattle.station_log.specs.Runs.{count_of}
use Rattle.station_log.specs.Cells.{Cells, cells_most, cells_of, is_new, noted}
use Rattle.station_log.proofs.Celled.{cells_04, cells_05, cells_06, cells_07, cells_08}
use Rattle.station_log.proofs.Which.{kept_by}
use Rattle.station_log.proofs.Covered.{Fine}
use Rattle.station_log.proofs.Knowing.{Knows, knows_none, knows_more, new_needless, zeros, zeros_most, zeros_same}
use Rattle.station_log.proofs.Knowing.{zeros_fewer}

-- ---- the cells of a number

-- where they begin, and how many they are
abbrev pub range : ℕ → Cells
range n =
    cond (eqb n 0x04) (record { first = 0; count = 256 })
    (cond (eqb n 0x05) (record { first = 256; count = 256 })
    (cond (eqb n 0x06) (record { first = 512; count = 8 })
    (cond (eqb n 0x07) (record { first = 520; count = 1 }) (record { first = 521; count = 1 }))))

abbrev free_in : ℕ → List ℕ → ℕ
free_in n cells = zeros (range n).first (range n).count cells

-- a record's own are among those of its number
pub record Among (own all : Cells) : Type 0 where
  pub low : all.first ≤ own.first
  pub high : own.first + own.count ≤ all.first + all.count

among : (m : List ℕ) → is_status m ≡ true → byte 2 m < 256 → Among (cells_of m) (range (number_of (byte 1 m)))
among m h small =
    status_cases (Among (cells_of m) (range (number_of (byte 1 m)))) m h
    (λ e. rw (e, cells_04 m e) (record { low = omega arith; high = omega arith }))
    (λ e off. rw (e, cells_05 m e) (record { low = omega arith; high = omega arith }))
    (λ e few. rw (e, cells_06 m e) (record { low = omega arith; high = omega arith }))
    (λ e. rw (e, cells_07 m e) (record { low = omega arith; high = omega arith }))
    (λ e. rw (e, cells_08 m e) (record { low = omega arith; high = omega arith }))

-- ---- how many stay

few_later : (n : ℕ) (cells : List ℕ) (later ms : List (List ℕ)) → Knows cells later → Fine ms
    → count_of n (kept_of later ms) ≤ free_in n cells
unfolding kept_of count_of
few_later n cells later [] k f = omega arith
few_later n cells later (m ∷ older) k f =
    go (needless later m) refl (eqb (number_of (byte 1 m)) n) refl
    (few_later n (noted cells m) (m ∷ later) older (knows_more cells m later k f.0 f.1) f.2)
  where
    ks : List (List ℕ)
    ks = kept_of (m ∷ later) older

    new : is_new cells m ≡ not (needless later m)
    new = new_needless cells m later k f.0 f.1

    go : (b : Bool) → needless later m ≡ b → (d : Bool) → eqb (number_of (byte 1 m)) n ≡ d
        → count_of n ks ≤ free_in n (noted cells m) → count_of n (cond b ks (m ∷ ks)) ≤ free_in n cells
    go true e d q s =
        let less = zeros_same cells m later k f.0 f.1 (range n).first (range n).count in omega arith
    go false e false q s =
        let less = zeros_same cells m later k f.0 f.1 (range n).first (range n).count in rw q (omega arith)
    go false e true q s =
        let is = eqb-true (number_of (byte 1 m)) n q in
        let a : Among (cells_of m) (range n) =
        subst (λ (j : ℕ). Among (cells_of m) (range j)) is (among m f.0 f.1) in
        let fewer =
        zeros_fewer cells m later k f.0 f.1 (range n).first (range n).count a.low a.high
        (new ∙ ap not e) in
        rw q (omega arith)

-- of each number
few_kept : (n : ℕ) (ms : List (List ℕ)) → Fine ms → count_of n (kept_of [] ms) ≤ (range n).count
few_kept n ms f =
    let all = few_later n (replicate cells_most 0) [] ms knows_none f in
    let most = zeros_most (range n).first (range n).count (replicate cells_most 0) in
    omega arith

-- no more records than these
pub record Few (ms : List (List ℕ)) : Type 0 where
  pub of_04 : count_of 0x04 ms ≤ 256
  pub of_05 : count_of 0x05 ms ≤ 256
  pub of_06 : count_of 0x06 ms ≤ 8
  pub of_07 : count_of 0x07 ms ≤ 1
  pub of_08 : count_of 0x08 ms ≤ 1

pub kept_few : (ms : List (List ℕ)) → Fine ms → Few (kept_of [] ms)
kept_few ms f = record {
  of_04 = few_kept 0x04 ms f;
  of_05 = few_kept 0x05 ms f;
  of_06 = few_kept 0x06 ms f;
  of_07 = few_kept 0x07 ms f;
  of_08 = few_kept 0x08 ms f;
}

-- ---- their bytes

-- of those that stay, the second byte is one too
pub kept_fine : (later ms : List (List ℕ)) → Fine ms → Fine (kept_of later ms)
kept_fine =
    kept_by (λ a b. Fine b → Fine a) (λ f. f) (λ m a b r f. r f.2) (λ m a b r f. (f.0, f.1, r f.2))

-- a record by its number, and no more than 13 bytes
record_size : (m : List ℕ) (n : ℕ) → is_status m ≡ true → number_of (byte 1 m) ≡ n
    → length (record_of m) ≡ length_in known n + 1
record_size m n h e =
    length-append m (length m ∷ []) ∙ ap (λ (k : ℕ). k + 1) (passed_number m n (passed m (status_is m h).0) e)

pub record_most : (m : List ℕ) → is_status m ≡ true → length (record_of m) ≤ 13
record_most m h =
    status_cases (length (record_of m) ≤ 13) m h (λ e. rw (record_size m 0x04 h e) (omega arith))
    (λ e b. rw (record_size m 0x05 h e) (omega arith)) (λ e b. rw (record_size m 0x06 h e) (omega arith))
    (λ e. rw (record_size m 0x07 h e) (omega arith)) (λ e. rw (record_size m 0x08 h e) (omega arith))

-- all of them by how many there are of each
sizes : (ms : List (List ℕ)) → Fine ms
    → length (joined ms)
    ≡ 9 * count_of 0x04 ms + 11 * count_of 0x05 ms + 10 * count_of 0x06 ms + 10 * count_of 0x07 ms + 13 * count_of 0x08 ms
unfolding joined count_of
sizes [] f = refl
sizes (m ∷ older) f =
    let n = sizes older f.2 in
    let all = length-append (joined older) (record_of m) in
    status_cases _ m f.0 (λ e. let s = record_size m 0x04 f.0 e in rw e (omega arith))
    (λ e b. let s = record_size m 0x05 f.0 e in rw e (omega arith))
    (λ e b. let s = record_size m 0x06 f.0 e in rw e (omega arith))
    (λ e. let s = record_size m 0x07 f.0 e in rw e (omega arith))
    (λ e. let s = record_size m 0x08 f.0 e in rw e (omega arith))

-- AT MOST 5,223 BYTES
pub few_bytes : (ms : List (List ℕ)) → Fine ms → length (joined (kept_of [] ms)) ≤ 5223
few_bytes ms f =
    let s = sizes (kept_of [] ms) (kept_fine [] ms f) in
    let k = kept_few ms f in
    let a = k.of_04 in
    let b = k.of_05 in
    let c = k.of_06 in
    let d = k.of_07 in
    let e = k.of_08 in
    omega arith
