-- Laws of reading a log back: A SOUND LOG IS ITS RECORDS JOINED, AND NO OTHER LIST OF MESSAGES GIVES THE SAME BYTES.
-- Assumes nothing.
use Prim.Native.Nat.{ℕ, zero, suc, ◌+◌, ◌-◌, ◌≤◌, ◌<◌}
use native.Mathlib.Nat.{le_refl}
use native.Mathlib.Omega.{arith}
use mathlib.Core.Path.{◌≡◌, refl, sym, ap, ap₂, subst, ◌∙◌}
use mathlib.Core.Bool.{Bool, true, false, cond}
use mathlib.Core.Option.{Option, none, some, map, some-injective, none-ne-some}
use mathlib.Core.List.{List, [], ◌∷◌, ◌++◌, append_assoc}
use lib.Dec.{eqb, ltb}
use lib.ListN.{length, get_or, take, length-append, length-take, length-drop, drop_of_length-le}
use lib.Seq.{split_at, take-add, take_at, drop_at, get_or_at}
use borrow.Author.Tests.{ne_eqb, lt-ltb, eqb-true, ltb-true}
use Rattle.station_log.specs.Log.{record_of, joined, trailer, last_start, last_message, walked_back, all_kept, if_kept}
use Rattle.station_log.specs.Log.{records_of}

-- ---- the last record

-- of bytes that a trailer does not reach beyond: they end with the record that it tells
pub last_record : (log : List ℕ) → trailer log < length log
    → log ≡ take (last_start log) log ++ record_of (last_message log)
last_record log h =
    let n = length log - 1 in
    let t = trailer log in
    let s = last_start log in
    let whole : log ≡ take n log ++ (t ∷ []) =
    split_at log n 0 (omega arith)
    ∙ ap (λ (l : List ℕ). take n log ++ (t ∷ l)) (drop_of_length-le log {i = suc n} (omega arith)) in
    let two : take n log ≡ take s log ++ last_message log =
    let e : n ≡ s + t = omega arith in ap (λ (k : ℕ). take k log) e ∙ take-add s t log in
    let size : length (last_message log) ≡ t = rw (length-take, length-drop) (omega arith) in
    whole
    ∙ ap (λ (l : List ℕ). l ++ (t ∷ [])) two
    ∙ append_assoc (take s log) (last_message log) (t ∷ [])
    ∙ ap (λ (k : ℕ). take s log ++ (last_message log ++ (k ∷ []))) (sym size)

-- of bytes that end with a record
module _ (older m : List ℕ) where
  abbrev ended : List ℕ
  ended = older ++ record_of m

  size_ended : length ended ≡ length older + (length m + 1)
  size_ended = length-append older (record_of m) ∙ ap (λ (k : ℕ). length older + k) (length-append m (length m ∷ []))

  pub trailer_ended : trailer ended ≡ length m
  trailer_ended =
      let n = size_ended in
      let front : length (older ++ m) ≡ length ended - 1 = length-append older m ∙ (omega arith) in
      ap (λ (l : List ℕ). get_or l (length ended - 1) 0) (sym (append_assoc older m (length m ∷ [])))
      ∙ get_or_at (older ++ m) (length m) [] 0 (length ended - 1) front

  pub within_ended : trailer ended < length ended
  within_ended = let t = trailer_ended in let n = size_ended in omega arith

  start_ended : length older ≡ last_start ended
  start_ended = let t = trailer_ended in let n = size_ended in omega arith

  pub message_ended : last_message ended ≡ m
  message_ended =
      ap (take (trailer ended)) (drop_at older (record_of m) (last_start ended) start_ended)
      ∙ take_at m (length m ∷ []) (trailer ended) (sym trailer_ended)

  pub older_ended : take (last_start ended) ended ≡ older
  older_ended = take_at older (record_of m) (last_start ended) start_ended

-- ---- walking back

pub no_bytes : (l : List ℕ) → length l ≡ 0 → l ≡ []
no_bytes [] h = refl
no_bytes (b ∷ l) h = absurd (omega arith)

pub walk_joined : (ms : List (List ℕ)) (steps : ℕ) → length (joined ms) ≤ steps → walked_back steps (joined ms) ≡ some ms
unfolding joined walked_back
walk_joined [] zero h = refl
walk_joined [] (suc steps) h = refl
walk_joined (m ∷ older) zero h = let n = size_ended (joined older) m in absurd (omega arith)
walk_joined (m ∷ older) (suc steps) h =
    let before = joined older in
    let n = size_ended before m in
    rw (ne_eqb (length (before ++ record_of m)) 0 (λ z. omega arith), lt-ltb _ _ (within_ended before m))
    (ap₂ (λ (k : List ℕ) (o : Option (List (List ℕ))). map (λ ms. k ∷ ms) o) (message_ended before m)
    (ap (walked_back steps) (older_ended before m) ∙ walk_joined older steps (omega arith)))

pub walk_is : (steps : ℕ) (log : List ℕ) (ms : List (List ℕ)) → walked_back steps log ≡ some ms → log ≡ joined ms
unfolding joined walked_back
walk_is zero log ms h = go (eqb (length log) 0) refl h
  where
    go : (t : Bool) → eqb (length log) 0 ≡ t → cond t (some []) none ≡ some ms → log ≡ joined ms
    go true e h = no_bytes log (eqb-true (length log) 0 e) ∙ ap joined (some-injective [] ms h)
    go false e h = absurd (none-ne-some ms h)
walk_is (suc steps) log ms h =
    go (λ older e. walk_is steps (take (last_start log) log) older e) (eqb (length log) 0) refl
    (ltb (trailer log) (length log)) refl h
  where
    rest : Option (List (List ℕ))
    rest = walked_back steps (take (last_start log) log)

    Before : Type 0
    Before = (older : List (List ℕ)) → rest ≡ some older → take (last_start log) log ≡ joined older

    by : Before → trailer log < length log → (w : Option (List (List ℕ))) → rest ≡ w
        → map (λ ms. last_message log ∷ ms) w ≡ some ms → log ≡ joined ms
    by before l none e h = absurd (none-ne-some ms h)
    by before l (some older) e h =
        last_record log l
        ∙ ap (λ (o : List ℕ). o ++ record_of (last_message log)) (before older e)
        ∙ ap joined (some-injective (last_message log ∷ older) ms h)

    go : Before → (t : Bool) → eqb (length log) 0 ≡ t → (u : Bool) → ltb (trailer log) (length log) ≡ u
        → cond t (some []) (cond u (map (λ ms. last_message log ∷ ms) rest) none) ≡ some ms → log ≡ joined ms
    go before true e u f h = no_bytes log (eqb-true (length log) 0 e) ∙ ap joined (some-injective [] ms h)
    go before false e true f h = by before (ltb-true (trailer log) (length log) f) rest refl h
    go before false e false f h = absurd (none-ne-some ms h)

-- ---- the records of a log

-- a log of these messages, newest first
pub record Holds (log : List ℕ) (ms : List (List ℕ)) : Type 0 where
  pub bytes : log ≡ joined ms
  pub kept : all_kept ms ≡ true

-- A SOUND LOG IS ITS RECORDS JOINED
pub records_joined : (log : List ℕ) (ms : List (List ℕ)) → records_of log ≡ some ms → Holds log ms
unfolding records_of
records_joined log ms h = by (walked_back (length log) log) refl h
  where
    by : (w : Option (List (List ℕ))) → walked_back (length log) log ≡ w → if_kept w ≡ some ms → Holds log ms
    by none e h = absurd (none-ne-some ms h)
    by (some ns) e h = go (all_kept ns) refl h
      where
        go : (t : Bool) → all_kept ns ≡ t → cond t (some ns) none ≡ some ms → Holds log ms
        go false f h = absurd (none-ne-some ms h)
        go true f h =
            let same = some-injective ns ms h in
            record { bytes = walk_is (length log) log ns e ∙ ap joined same; kept = sym (ap all_kept same) ∙ f }

-- and what is joined of kept messages is read back
pub joined_records : (log : List ℕ) (ms : List (List ℕ)) → Holds log ms → records_of log ≡ some ms
unfolding records_of
joined_records log ms h =
    ap (λ (l : List ℕ). if_kept (walked_back (length l) l)) h.bytes
    ∙ ap if_kept (walk_joined ms (length (joined ms)) (le_refl (length (joined ms))))
    ∙ rw h.kept refl

-- NO OTHER LIST OF MESSAGES GIVES THE SAME BYTES, whatever messages they are
pub joined_one : (ms ns : List (List ℕ)) → joined ms ≡ joined ns → ms ≡ ns
joined_one ms ns e =
    let n = length (joined ms) in
    some-injective ms ns
    (sym (walk_joined ms n (le_refl n))
    ∙ ap (walked_back n) e
    ∙ walk_joined ns n (subst (λ (l : List ℕ). length (joined ns) ≤ length l) (sym e) (le_refl (length (joined ns)))))
