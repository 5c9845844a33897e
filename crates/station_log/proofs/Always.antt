-- A LOG OF 5,236 BYTES IS NEVER FULL: a unit that makes room where `keep` says 9, and keeps again, keeps every message
-- that a log keeps, and its log tells the table for ever. Assumes nothing.
use Prim.Native.Nat.{ℕ, ◌+◌, ◌≤◌, ◌<◌}
use native.Mathlib.Omega.{arith}
use mathlib.Core.Path.{◌≡◌, refl, sym, ap, subst, ◌∙◌}
use mathlib.Core.Bool.{Bool, true, false, cond}
use mathlib.Core.Option.{some}
use mathlib.Core.List.{List, [], ◌∷◌, ◌++◌}
use lib.Dec.{eqb, ltb}
use lib.ListN.{length, get_or, drop, take-append-drop, get_or-append, get_or-eq_default}
use lib.Seq.{get_or-append-add}
use borrow.Author.Tests.{eqb-true, eqb-false, ltb-true, ltb-false}
use Rattle.standard.specs.Words.{Bytes, byte}
use Rattle.standard.specs.Messages.{is_status}
use Rattle.standard.specs.Judge.{Handed}
use Rattle.standard.specs.Table.{table_after}
use Rattle.standard.proofs.Messages.{both_true}
use Rattle.station_log.specs.Log.{record_of, joined, walked_back, all_kept, records_of, keep_refusal}
use Rattle.station_log.specs.Runs.{Station, log_in, empty, keeping, making, keeping_on, keeping_on_all, good_in, oldest_first}
use Rattle.station_log.specs.Runs.{told_by}
use Rattle.station_log.specs.Room.{kept_of}
use Rattle.station_log.proofs.Walking.{records_joined}
use Rattle.station_log.proofs.Backwards.{sound_records}
use Rattle.station_log.proofs.Refusing.{Inside, inside_not, Asked, taken}
use Rattle.station_log.proofs.Keeping.{refused_stays, kept_records, keeping_length, keeping_asked, empty_asked}
use Rattle.station_log.proofs.Rebuilt.{took_all, took_good}
use Rattle.station_log.proofs.Making.{made_records, made_used, made_length, made_asked, keep_after, on_told}
use Rattle.station_log.proofs.Covered.{Fine}
use Rattle.station_log.proofs.Fewer.{kept_fine, record_most, few_bytes}

-- ---- messages of which the second byte is one

-- of bytes, each part is
bytes_front : (a b : List ℕ) → Bytes (a ++ b) → Bytes a
bytes_front a b h i = go (ltb i (length a)) refl
  where
    go : (t : Bool) → ltb i (length a) ≡ t → get_or a i 0 < 256
    go true e = subst (λ (k : ℕ). k < 256) (get_or-append a b 0 i (ltb-true i (length a) e)) (h i)
    go false e = rw (get_or-eq_default a 0 (ltb-false i (length a) e)) (omega arith)

bytes_back : (a b : List ℕ) → Bytes (a ++ b) → Bytes b
bytes_back a b h i = subst (λ (k : ℕ). k < 256) (get_or-append-add a b i 0) (h (length a + i))

-- so every message of a log of bytes
fine_joined : (ms : List (List ℕ)) → all_kept ms ≡ true → Bytes (joined ms) → Fine ms
unfolding all_kept joined
fine_joined [] k h = tt
fine_joined (m ∷ older) k h =
    let b = both_true (is_status m) (all_kept older) k in (
      b.0,
      bytes_front m (length m ∷ []) (bytes_back (joined older) (record_of m) h) 1,
      fine_joined older b.1 (bytes_front (joined older) (record_of m) h),
    )

-- a station whose log is not refused, and holds such messages
pub record Holding (s : Station) : Type 0 where
  pub is_asked : Asked s.buffer s.used
  pub messages : List (List ℕ)
  pub are : records_of (log_in s) ≡ some messages
  pub fine : Fine messages

-- as every buffer of memory is
pub in_memory : (s : Station) → Asked s.buffer s.used → Bytes s.buffer → Holding s
in_memory s a h =
    let all = sound_records (log_in s) a.sounds in
    let j = records_joined (log_in s) all.0 all.1 in
    record {
      is_asked = a;
      messages = all.0;
      are = all.1;
      fine = fine_joined all.0 j.kept (subst Bytes j.bytes front);
    }
  where
    front : Bytes (log_in s)
    front = bytes_front (log_in s) (drop s.used s.buffer)
        (subst Bytes (sym (take-append-drop s.used s.buffer)) h)

-- ---- NEVER FULL

-- when room was made, no more than 5,223 bytes are used
pub small_log : (s : Station) → Holding s → (making s).used ≤ 5223
small_log s h = rw (made_used s h.is_asked h.messages h.are) (few_bytes h.messages h.fine)

room_for : (s : Station) (m : List ℕ) → Holding s → 5236 ≤ length s.buffer → is_status m ≡ true
    → Inside s.buffer ((making s).used + length (record_of m))
room_for s m h enough k =
    let u = small_log s h in
    let r = record_most m k in
    record { buffer = omega arith; most = omega arith }

-- so that every message that a log keeps is then kept
pub never_full : (s : Station) (m : List ℕ) → Holding s → 5236 ≤ length s.buffer → is_status m ≡ true
    → keep_refusal (making s).buffer (making s).used m ≡ 0
never_full s m h enough k =
    keep_after s m h.is_asked k
    ∙ ap (λ t. cond t 9 0)
    (inside_not s.buffer ((making s).used + length (record_of m)) (room_for s m h enough k))

-- ---- THE LOG TELLS THE TABLE FOR EVER

made_holding : (s : Station) → Holding s → Holding (making s)
made_holding s h = record {
  is_asked = made_asked s h.is_asked;
  messages = kept_of [] h.messages;
  are = made_records s h.is_asked h.messages h.are;
  fine = kept_fine [] h.messages h.fine;
}

kept_holding : (s : Station) (m : List ℕ) → Holding s → byte 2 m < 256 → Holding (keeping s m)
kept_holding s m h small = go (eqb (keep_refusal s.buffer s.used m) 0) refl
  where
    go : (t : Bool) → eqb (keep_refusal s.buffer s.used m) 0 ≡ t → Holding (keeping s m)
    go true e =
        let z = eqb-true (keep_refusal s.buffer s.used m) 0 e in
        record {
          is_asked = keeping_asked s m h.is_asked;
          messages = m ∷ h.messages;
          are = kept_records s m h.messages z h.are;
          fine = ((taken s.buffer s.used m z).kept, small, h.fine);
        }
    go false e =
        subst Holding (sym (refused_stays s m (eqb-false (keep_refusal s.buffer s.used m) 0 e))) h

-- messages that are bytes, as every stream hands them out
abbrev pub AllBytes : List (List ℕ) → Type 0
AllBytes [] = Unit {0}
AllBytes (m ∷ ms) = Bytes m × AllBytes ms

on_holding : (s : Station) (m : List ℕ) → Holding s → byte 2 m < 256 → Holding (keeping_on s m)
unfolding keeping_on
on_holding s m h small = go (eqb (keep_refusal s.buffer s.used m) 9)
  where
    go : (t : Bool) → Holding (cond t (keeping (making s) m) (keeping s m))
    go true = kept_holding (making s) m (made_holding s h) small
    go false = kept_holding s m h small

on_length : (s : Station) (m : List ℕ) → length (keeping_on s m).buffer ≡ length s.buffer
unfolding keeping_on
on_length s m = go (eqb (keep_refusal s.buffer s.used m) 9)
  where
    go : (t : Bool) → length (cond t (keeping (making s) m) (keeping s m)).buffer ≡ length s.buffer
    go true = keeping_length (making s) m ∙ made_length s
    go false = keeping_length s m

told_all : (t : List ℕ) (s : Station) (ms : List (List ℕ)) → Holding s → 5236 ≤ length s.buffer → AllBytes ms
    → table_after t (told_by (log_in (keeping_on_all s ms))) ≡ took_all (table_after t (told_by (log_in s))) ms
unfolding keeping_on_all took_all
told_all t s [] h enough b = refl
told_all t s (m ∷ ms) h enough b =
    told_all t (keeping_on s m) ms (on_holding s m h (b.0 1)) (rw (on_length s m) enough) b.1
    ∙ ap (λ (u : List ℕ). took_all u ms) (on_told t s m h.is_asked (λ k. room_for s m h enough k))

-- whatever a stream handed out, from whatever table on
pub always_rebuilt : (t buffer : List ℕ) (hs : List Handed) → 5236 ≤ length buffer → AllBytes (good_in hs)
    → table_after t (told_by (log_in (keeping_on_all (empty buffer) (good_in hs)))) ≡ table_after t hs
unfolding oldest_first table_after records_of walked_back all_kept
always_rebuilt t buffer hs enough b =
    told_all t (empty buffer) (good_in hs)
    (record { is_asked = empty_asked buffer; messages = []; are = refl; fine = tt }) enough b
    ∙ took_good t hs
