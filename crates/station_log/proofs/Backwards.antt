-- Laws of one step back, as the code takes it: what stands at the end of a log is a record, and the bytes before it
-- tell the rest; or it is none, and the bytes are no log. Assumes nothing.
use Prim.Native.Nat.{ℕ, ◌-◌, ◌≤◌}
use native.Mathlib.Omega.{arith}
use mathlib.Core.Path.{◌≡◌, refl, sym, ap, ◌∙◌}
use mathlib.Core.Bool.{Bool, true, false, false≢true}
use mathlib.Core.Option.{Option, none, some, map, none-ne-some}
use mathlib.Core.List.{List, [], ◌∷◌, ◌++◌, append_assoc}
use lib.ListN.{length, get_or, take, drop, length-append}
use lib.Dec.{eqb}
use lib.Seq.{take_at, drop_at, get_or_at}
use borrow.Author.Tests.{eqb-true, eqb-false}
use Rattle.standard.specs.Messages.{is_status}
use Rattle.standard.proofs.Messages.{both_true}
use Rattle.station_log.specs.Log.{record_of, joined, last_start, walked_back, all_kept, records_of, is_list, sound}
use Rattle.station_log.specs.Places.{Ends, EndsWithNone}
use Rattle.station_log.proofs.Walking.{no_bytes, older_ended, Holds, records_joined, joined_records}

-- a log of some messages ends with the newest
ends_newest : (log m : List ℕ) (older : List (List ℕ)) → Holds log (m ∷ older) → Ends log (joined older) m
unfolding joined all_kept
ends_newest log m older h = record { bytes = h.bytes; kept = (both_true (is_status m) (all_kept older) h.kept).0 }

module _ {log older m : List ℕ} (e : Ends log older m) where
  -- the bytes before the record, however they were found
  older_same : {same n : List ℕ} → Ends log same n → older ≡ same
  older_same {same} {n} f =
      sym (older_ended older m)
      ∙ ap (λ (l : List ℕ). take (last_start l) l) (sym e.bytes ∙ f.bytes)
      ∙ older_ended same n

  -- the log is that of the bytes before it, and this record
  pub records_back : records_of log ≡ map (λ ms. m ∷ ms) (records_of older)
  unfolding joined all_kept
  records_back = by (records_of older) refl
    where
      none_too : (w : Option (List (List ℕ))) → records_of log ≡ w → records_of older ≡ none → w ≡ none
      none_too none f g = refl
      none_too (some []) f g =
          let z = ap length (sym e.bytes ∙ (records_joined log [] f).bytes) in
          let n = length-append older (record_of m) in
          let k = length-append m (length m ∷ []) in
          absurd (omega arith)
      none_too (some (n ∷ ms)) f g =
          let h = records_joined log (n ∷ ms) f in
          let same = older_same (ends_newest log n ms h) in
          let k = (both_true (is_status n) (all_kept ms) h.kept).1 in
          absurd (none-ne-some ms (sym g ∙ joined_records older ms (record { bytes = same; kept = k })))

      by : (w : Option (List (List ℕ))) → records_of older ≡ w → records_of log ≡ map (λ ms. m ∷ ms) w
      by none f = none_too (records_of log) refl f
      by (some ms) f =
          let h = records_joined older ms f in
          joined_records log (m ∷ ms)
          (record { bytes = e.bytes ∙ ap (λ (l : List ℕ). l ++ record_of m) h.bytes; kept = rw (e.kept, h.kept) refl })

  pub sound_back : sound older ≡ sound log
  unfolding sound
  sound_back = go (records_of older) ∙ sym (ap is_list records_back)
    where
      go : (w : Option (List (List ℕ))) → is_list w ≡ is_list (map (λ ms. m ∷ ms) w)
      go none = refl
      go (some ms) = refl

-- an empty log is sound
pub sound_empty : sound [] ≡ true
unfolding sound records_of walked_back all_kept
sound_empty = refl

-- no record at the end: no log
pub no_records : (log : List ℕ) → EndsWithNone log → 1 ≤ length log → records_of log ≡ none
unfolding joined
no_records log h some_bytes = by (records_of log) refl
  where
    by : (w : Option (List (List ℕ))) → records_of log ≡ w → w ≡ none
    by none e = refl
    by (some []) e = let z = ap length (records_joined log [] e).bytes in absurd (omega arith)
    by (some (m ∷ older)) e =
        absurd (h (joined older) m (ends_newest log m older (records_joined log (m ∷ older) e)))

-- so it is one exactly if nothing is left
pub sound_at_end : (log : List ℕ) → EndsWithNone log → eqb (length log) 0 ≡ sound log
unfolding sound
sound_at_end log h = go (eqb (length log) 0) refl
  where
    go : (t : Bool) → eqb (length log) 0 ≡ t → t ≡ sound log
    go true e = sym (ap sound (no_bytes log (eqb-true (length log) 0 e)) ∙ sound_empty)
    go false e =
        let n = eqb-false (length log) 0 e in
        sym (ap is_list (no_records log h (omega arith)))

-- as the code looks: so far before the trailer begins the message
pub message_at : {log older m : List ℕ} (before : List ℕ) (trailer : ℕ) → log ≡ before ++ (trailer ∷ []) → Ends log older m
    → drop (length before - trailer) before ≡ m
message_at {log} {older} {m} before trailer e h =
    let same : before ++ (trailer ∷ []) ≡ (older ++ m) ++ (length m ∷ []) =
    sym e ∙ h.bytes ∙ sym (append_assoc older m (length m ∷ [])) in
    let sizes = ap length same in
    let a = length-append before (trailer ∷ []) in
    let b = length-append (older ++ m) (length m ∷ []) in
    let both = length-append older m in
    let n : length (older ++ m) ≡ length before = omega arith in
    let size : trailer ≡ length m =
    sym (get_or_at before trailer [] 0 (length before) refl)
    ∙ ap (λ (l : List ℕ). get_or l (length before) 0) same
    ∙ get_or_at (older ++ m) (length m) [] 0 (length before) n in
    let bytes : before ≡ older ++ m =
    sym (take_at before (trailer ∷ []) (length before) refl)
    ∙ ap (take (length before)) same
    ∙ take_at (older ++ m) (length m ∷ []) (length before) n in
    ap (drop (length before - trailer)) bytes ∙ drop_at older m (length before - trailer) (omega arith)

-- ---- soundness

pub sound_none : (log : List ℕ) → records_of log ≡ none → sound log ≡ false
unfolding sound
sound_none log e = ap is_list e

pub unsound_none : (log : List ℕ) → sound log ≡ false → records_of log ≡ none
unfolding sound
unsound_none log h = go (records_of log) refl h
  where
    go : (w : Option (List (List ℕ))) → records_of log ≡ w → is_list w ≡ false → w ≡ none
    go none e t = refl
    go (some ms) e t = absurd (false≢true (sym t))

-- "there is such a list"
pub sound_records : (log : List ℕ) → sound log ≡ true → (ms : List (List ℕ)) × (records_of log ≡ some ms)
unfolding sound
sound_records log h = go (records_of log) refl h
  where
    go : (w : Option (List (List ℕ))) → records_of log ≡ w → is_list w ≡ true
        → (ms : List (List ℕ)) × (records_of log ≡ some ms)
    go none e t = absurd (false≢true t)
    go (some ms) e t = (ms, e)

pub records_sound : (log : List ℕ) (ms : List (List ℕ)) → records_of log ≡ some ms → sound log ≡ true
unfolding sound
records_sound log ms e = ap is_list e
