-- THE LOG TELLS THE TABLE: of a unit that applies and keeps every good message, the log rebuilds the table, as long as
-- no message was refused for want of room. Assumes nothing.
use Prim.Native.Nat.{ℕ, ◌+◌}
use mathlib.Core.Path.{◌≡◌, refl, sym, ap, ◌∙◌}
use mathlib.Core.Bool.{Bool, true, false, cond}
use mathlib.Core.Option.{Option, some, get_or}
use mathlib.Core.List.{List, [], ◌∷◌, ◌++◌}
use lib.Dec.{eqb}
use lib.ListN.{length}
use borrow.Author.Tests.{eqb-true, eqb-false}
use Rattle.standard.specs.Messages.{among, is_status}
use Rattle.standard.specs.Judge.{Handed, handing}
use Rattle.standard.specs.Table.{applied_to, table_after}
use Rattle.standard.proofs.Messages.{neither_true}
use Rattle.standard.proofs.Status.{status_is}
use Rattle.standard.proofs.Stored.{other_keeps, after_append}
use Rattle.station_log.specs.Log.{record_of, walked_back, all_kept, records_of, beyond, keep_refusal}
use Rattle.station_log.specs.Runs.{Station, log_in, empty, keeping, keeping_all, numbers, good_in, oldest_first, told_by}
use Rattle.station_log.proofs.Refusing.{Asked, inside_not, keep_else}
use Rattle.station_log.proofs.Backwards.{sound_records}
use Rattle.station_log.proofs.Keeping.{refused_stays, kept_records, keeping_asked, empty_asked}

-- a table that took some messages, one after another
unfoldable pub took_all : List ℕ → List (List ℕ) → List ℕ
took_all t [] = t
took_all t (m ∷ ms) = took_all (applied_to t m) ms

pub took_good : (t : List ℕ) (hs : List Handed) → took_all t (good_in hs) ≡ table_after t hs
unfolding took_all good_in table_after
took_good t [] = refl
took_good t (h ∷ hs) =
    go (eqb h.verdict 0) (took_good (cond (eqb h.verdict 0) (applied_to t h.message) t) hs)
  where
    go : (ok : Bool) → took_all (cond ok (applied_to t h.message) t) (good_in hs)
        ≡ table_after (cond ok (applied_to t h.message) t) hs
        → took_all t (cond ok (h.message ∷ []) [] ++ good_in hs) ≡ table_after (cond ok (applied_to t h.message) t) hs
    go true e = e
    go false e = e

-- one record more, one message more for the table
pub told_more : (t m : List ℕ) (ms : List (List ℕ))
    → table_after t (oldest_first (m ∷ ms)) ≡ applied_to (table_after t (oldest_first ms)) m
unfolding oldest_first table_after
told_more t m ms = after_append t (oldest_first ms) (handing 0 m ∷ [])

-- a message that is refused, and not for want of room, would not change a table either
not_kept : (s : Station) (m : List ℕ) → Asked s.buffer s.used → (keep_refusal s.buffer s.used m ≡ 0 → ⊥)
    → (keep_refusal s.buffer s.used m ≡ 9 → ⊥) → is_status m ≡ false
not_kept s m a p q = go (is_status m) refl (beyond s.buffer (s.used + length (record_of m))) refl
  where
    go : (b : Bool) → is_status m ≡ b → (c : Bool) → beyond s.buffer (s.used + length (record_of m)) ≡ c → b ≡ false
    go false e c f = refl
    go true e c f = absurd (last c f)
      where
        is : keep_refusal s.buffer s.used m ≡ cond (beyond s.buffer (s.used + length (record_of m))) 9 0
        is = keep_else s.buffer s.used m (inside_not s.buffer s.used a.fits) a.sounds
            (status_is m e).0 e

        last : (c : Bool) → beyond s.buffer (s.used + length (record_of m)) ≡ c → ⊥
        last true f = q (is ∙ ap (λ t. cond t 9 0) f)
        last false f = p (is ∙ ap (λ t. cond t 9 0) f)

-- one call
pub told_keeping : (t : List ℕ) (s : Station) (m : List ℕ) → Asked s.buffer s.used
    → (keep_refusal s.buffer s.used m ≡ 9 → ⊥)
    → table_after t (told_by (log_in (keeping s m))) ≡ applied_to (table_after t (told_by (log_in s))) m
told_keeping t s m a room = go (eqb (keep_refusal s.buffer s.used m) 0) refl
  where
    told : (ms : List (List ℕ)) (log : List ℕ) → records_of log ≡ some ms
        → table_after t (told_by log) ≡ table_after t (oldest_first ms)
    told ms log e = ap (λ (w : Option (List (List ℕ))). table_after t (oldest_first (get_or w []))) e

    go : (ok : Bool) → eqb (keep_refusal s.buffer s.used m) 0 ≡ ok
        → table_after t (told_by (log_in (keeping s m))) ≡ applied_to (table_after t (told_by (log_in s))) m
    go true e =
        let all = sound_records (log_in s) a.sounds in
        told (m ∷ all.0) (log_in (keeping s m)) (kept_records s m all.0 (eqb-true _ 0 e) all.1)
        ∙ told_more t m all.0
        ∙ ap (λ (u : List ℕ). applied_to u m) (sym (told all.0 (log_in s) all.1))
    go false e =
        let refused = eqb-false (keep_refusal s.buffer s.used m) 0 e in
        ap (λ (u : Station). table_after t (told_by (log_in u))) (refused_stays s m refused)
        ∙ sym (other_keeps (table_after t (told_by (log_in s))) m (not_kept s m a refused room))

-- all of them
told_all : (t : List ℕ) (s : Station) (ms : List (List ℕ)) → Asked s.buffer s.used
    → among 9 (numbers s ms) ≡ false
    → table_after t (told_by (log_in (keeping_all s ms))) ≡ took_all (table_after t (told_by (log_in s))) ms
unfolding keeping_all numbers took_all
told_all t s [] a h = refl
told_all t s (m ∷ ms) a h =
    let n = keep_refusal s.buffer s.used m in
    let b = neither_true (eqb 9 n) (among 9 (numbers (keeping s m) ms)) h in
    told_all t (keeping s m) ms (keeping_asked s m a) b.1
    ∙ ap (λ (u : List ℕ). took_all u ms) (told_keeping t s m a (λ z. eqb-false 9 n b.0 (sym z)))

-- whatever a stream handed out, from whatever table on
pub rebuilt : (t buffer : List ℕ) (hs : List Handed) → among 9 (numbers (empty buffer) (good_in hs)) ≡ false
    → table_after t (told_by (log_in (keeping_all (empty buffer) (good_in hs)))) ≡ table_after t hs
unfolding oldest_first table_after records_of walked_back all_kept
rebuilt t buffer hs h = told_all t (empty buffer) (good_in hs) (empty_asked buffer) h ∙ took_good t hs
