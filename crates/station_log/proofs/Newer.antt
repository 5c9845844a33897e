-- THE NEWEST RECORD ABOUT A ZONE, over the list of records: it is the newest, there is none exactly if the log has
-- none, and what it is after `keep`. Assumes nothing.
use Prim.Native.Nat.{ℕ}
use native.Mathlib.Omega.{arith}
use mathlib.Core.Path.{◌≡◌, refl, sym, ap, ◌∙◌}
use mathlib.Core.Bool.{Bool, true, false, cond, not, ◌||◌, false≢true}
use mathlib.Core.Option.{Option, some, get_or}
use mathlib.Core.List.{List, [], ◌∷◌, ◌++◌}
use lib.Dec.{eqb}
use lib.ListN.{length, take, length-append}
use lib.Seq.{length-take-le}
use borrow.Author.Tests.{ne_eqb}
use Rattle.station_log.specs.Log.{record_of, joined, records_of, about, from_newest, first_record, first_place, newest_from}
use Rattle.station_log.specs.Log.{newest_of, Place}
use Rattle.station_log.specs.Log.{log_refusal, found_of, keep_refusal}
use Rattle.station_log.specs.Runs.{Station, log_in, keeping, any_about}
use Rattle.station_log.proofs.Walking.{records_joined}
use Rattle.station_log.proofs.Backwards.{sound_records}
use Rattle.station_log.proofs.Refusing.{Asked, asked_none, taken}
use Rattle.station_log.proofs.Keeping.{kept_records, keeping_asked}

-- ---- over a list

-- IT IS THE NEWEST: none of those that came after it is about the zone
pub is_newest : (zone : ℕ) (newer older : List (List ℕ)) (m : List ℕ) → any_about zone newer ≡ false
    → about zone m ≡ true → from_newest zone (newer ++ (m ∷ older)) ≡ m ∷ older
unfolding from_newest any_about
is_newest zone [] older m h e = rw e refl
is_newest zone (n ∷ newer) older m h e = go (about zone n) h (is_newest zone newer older m)
  where
    go : (t : Bool) → (t || any_about zone newer) ≡ false
        → (any_about zone newer ≡ false → about zone m ≡ true → from_newest zone (newer ++ (m ∷ older)) ≡ m ∷ older)
        → cond t (n ∷ newer ++ (m ∷ older)) (from_newest zone (newer ++ (m ∷ older))) ≡ m ∷ older
    go false h more = more h e
    go true h more = absurd (false≢true (sym h))

-- there is one exactly if some message is about the zone
listed_none : (zone : ℕ) (ms : List (List ℕ))
    → eqb (length (first_record (from_newest zone ms))) 0 ≡ not (any_about zone ms)
unfolding from_newest first_record any_about
listed_none zone [] = refl
listed_none zone (m ∷ older) = go (about zone m) (listed_none zone older)
  where
    go : (t : Bool) → eqb (length (first_record (from_newest zone older))) 0 ≡ not (any_about zone older)
        → eqb (length (first_record (cond t (m ∷ older) (from_newest zone older)))) 0 ≡ not (t || any_about zone older)
    go true h = ne_eqb (length (record_of m)) 0 (λ z. let n = length-append m (length m ∷ []) in omega arith)
    go false h = h

-- ---- of a log that is not refused

-- what is found, by the list of its records
found_list : (log : List ℕ) (used zone : ℕ) (ms : List (List ℕ)) → log_refusal log used ≡ 0
    → records_of (take used log) ≡ some ms
    → found_of log used zone
    ≡ record { number = 0; at = first_place (from_newest zone ms); length = length (first_record (from_newest zone ms)) }
unfolding found_of
found_list log used zone ms h e =
    rw h
    (ap (λ (w : Option (List (List ℕ))). record {
      number = 0;
      at = first_place (from_newest zone (get_or w []));
      length = length (first_record (from_newest zone (get_or w [])));
    }) e)

-- "NONE" EXACTLY IF THE LOG HAS NONE
pub none_exactly : (log : List ℕ) (used zone : ℕ) (ms : List (List ℕ)) → log_refusal log used ≡ 0
    → records_of (take used log) ≡ some ms → eqb (found_of log used zone).length 0 ≡ not (any_about zone ms)
none_exactly log used zone ms h e =
    ap (λ (f : Place). eqb f.length 0) (found_list log used zone ms h e) ∙ listed_none zone ms

-- it stands nowhere then
pub none_at_0 : (log : List ℕ) (used zone : ℕ) → (found_of log used zone).length ≡ 0 → (found_of log used zone).at ≡ 0
unfolding found_of first_record first_place
none_at_0 log used zone = go (eqb (log_refusal log used) 0) (newest_from (take used log) zone)
  where
    go : (t : Bool) (from : List (List ℕ)) → cond t (length (first_record from)) 0 ≡ 0 → cond t (first_place from) 0 ≡ 0
    go false from h = refl
    go true [] h = refl
    go true (m ∷ older) h = let n = length-append m (length m ∷ []) in absurd (omega arith)

-- ---- AFTER `keep`

-- what is found in a station's log
abbrev found_in : Station → ℕ → Place
found_in s zone = found_of s.buffer s.used zone

module _ (s : Station) (m : List ℕ) (h : keep_refusal s.buffer s.used m ≡ 0) where
  before : Asked s.buffer s.used
  before = (taken s.buffer s.used m h).log_asked

  after : log_refusal (keeping s m).buffer (keeping s m).used ≡ 0
  after = asked_none (keeping s m).buffer (keeping s m).used (keeping_asked s m before)

  -- about every zone of that message it is the new record, which stands where the used bytes ended
  pub newest_kept : (zone : ℕ) → about zone m ≡ true
      → found_in (keeping s m) zone ≡ record { number = 0; at = s.used; length = length (record_of m) }
  unfolding from_newest first_place first_record
  newest_kept zone e =
      let all = sound_records (log_in s) before.sounds in
      let ms = all.0 in
      let place : length (joined ms) ≡ s.used =
      sym (ap length (records_joined (log_in s) ms all.1).bytes)
      ∙ length-take-le s.used s.buffer before.fits.buffer in
      found_list (keeping s m).buffer (keeping s m).used zone (m ∷ ms) after (kept_records s m ms h all.1)
      ∙ rw e (ap (λ (n : ℕ). record { number = 0; at = n; length = length (record_of m) }) place)

  -- about every other zone it is what it was
  pub newest_other : (zone : ℕ) → about zone m ≡ false → found_in (keeping s m) zone ≡ found_in s zone
  unfolding from_newest
  newest_other zone e =
      let all = sound_records (log_in s) before.sounds in
      let ms = all.0 in
      found_list (keeping s m).buffer (keeping s m).used zone (m ∷ ms) after (kept_records s m ms h all.1)
      ∙ rw e (sym (found_list s.buffer s.used zone ms (asked_none s.buffer s.used before) all.1))

  -- and so are its bytes: the new record's, or those they were
  pub newest_bytes : (zone : ℕ)
      → newest_of (log_in (keeping s m)) zone ≡ cond (about zone m) (record_of m) (newest_of (log_in s) zone)
  unfolding from_newest first_record
  newest_bytes zone =
      let all = sound_records (log_in s) before.sounds in
      ap (λ (w : Option (List (List ℕ))). first_record (from_newest zone (get_or w [])))
      (kept_records s m all.0 h all.1)
      ∙ go (about zone m) all.0
      ∙ ap (λ (w : Option (List (List ℕ))).
      cond (about zone m) (record_of m) (first_record (from_newest zone (get_or w [])))) (sym all.1)
    where
      go : (t : Bool) (ms : List (List ℕ))
          → first_record (cond t (m ∷ ms) (from_newest zone ms)) ≡ cond t (record_of m) (first_record (from_newest zone ms))
      go true ms = refl
      go false ms = refl
