-- THE RECORDS AT THE PLACES REMEMBERED ARE THOSE THAT STAY, in their order, each behind the one before. And so what
-- `make_room` promises. Assumes nothing.
use Prim.Native.Nat.{ℕ, suc, ◌+◌, ◌-◌, ◌≤◌, ◌<◌}
use native.Mathlib.Omega.{arith}
use mathlib.Core.Path.{◌≡◌, refl, sym, ap, ap₂, subst, ◌∙◌}
use mathlib.Core.Bool.{Bool, true, false, cond}
use mathlib.Core.Option
use mathlib.Core.Option.{Option, some}
use mathlib.Core.List.{List, [], ◌∷◌, ◌++◌, append_assoc, append-nil}
use lib.ListN.{length, get_or, take, drop, length-append, take-append-drop}
use lib.Seq.{take_at, drop_at, get_or_at, length-take-le}
use borrow.Author.Tests.{ne_eqb}
use Rattle.standard.specs.Words.{laid}
use Rattle.station_log.specs.Log.{record_of, joined, records_of, sound, beyond, log_refusal}
use Rattle.station_log.specs.Room.{needless, kept_of, smaller, won_of, after_room, MakesRoom}
use Rattle.station_log.specs.Cells.{places_of, places_in, record_at, records_at, Apart}
use Rattle.station_log.proofs.Walking.{records_joined}
use Rattle.station_log.proofs.Backwards.{sound_records}
use Rattle.station_log.proofs.Refusing.{log_16, log_else}
use Rattle.station_log.proofs.Which.{kept_shorter}
use Rattle.station_log.proofs.Moving.{records_append, records_one}

-- ---- where the places are

-- below an end
unfoldable pub Below : ℕ → List ℕ → Type 0
Below high [] = Unit {0}
Below high (last ∷ places) = (last < high) × Below high places

below_append : (high : ℕ) (a b : List ℕ) → Below high a → Below high b → Below high (a ++ b)
unfolding Below
below_append high [] b p q = q
below_append high (last ∷ a) b p q = (p.0, below_append high a b p.1 q)

below_more : (high more : ℕ) (places : List ℕ) → high ≤ more → Below high places → Below more places
unfolding Below
below_more high more [] h p = tt
below_more high more (last ∷ places) h p = let l = p.0 in (omega arith, below_more high more places h p.1)

-- one more, which stands behind them all
apart_append : (log : List ℕ) (low high : ℕ) (places : List ℕ) (last : ℕ) → Apart log low places → low ≤ high
    → Below high places → last < length log → high + get_or log last 0 ≤ last → Apart log low (places ++ (last ∷ []))
unfolding Apart Below
apart_append log low high [] last a h b inside behind = (inside, omega arith, tt)
apart_append log low high (q ∷ places) last a h b inside behind =
    (a.0, a.1, apart_append log (suc q) high places last a.2 b.0 b.1 inside behind)

-- records that stand apart below an end, by the places of their trailers
pub record Stay (log : List ℕ) (high : ℕ) (places : List ℕ) (kept : List (List ℕ)) : Type 0 where
  pub apart : Apart log 0 places
  pub below : Below high places
  pub records : records_at log places ≡ joined kept

-- of a log that some messages make, whatever stands behind it
pub stay : (later ms : List (List ℕ)) (rest : List ℕ)
    → Stay (joined ms ++ rest) (length (joined ms)) (places_of later ms) (kept_of later ms)
unfolding places_of joined kept_of records_at Apart Below
stay later [] rest = record { apart = tt; below = tt; records = refl }
stay later (m ∷ older) rest =
    subst (λ (l : List ℕ).
    Stay l (length (joined older ++ record_of m)) (places_of later (m ∷ older)) (kept_of later (m ∷ older)))
    (sym (append_assoc (joined older) (record_of m) rest))
    (go (needless later m) (stay (m ∷ later) older (record_of m ++ rest)))
  where
    before : List ℕ
    before = joined older

    log : List ℕ
    log = before ++ (record_of m ++ rest)

    last : ℕ
    last = length before + length m

    trailer : get_or log last 0 ≡ length m
    trailer =
        ap (λ (l : List ℕ). get_or l last 0)
        (sym (append_assoc before (record_of m) rest)
        ∙ ap (λ (l : List ℕ). l ++ rest) (sym (append_assoc before m (length m ∷ [])))
        ∙ append_assoc (before ++ m) (length m ∷ []) rest)
        ∙ get_or_at (before ++ m) (length m) rest 0 last (length-append before m)

    long : length (record_of m) ≡ length m + 1
    long = length-append m (length m ∷ [])

    there : record_at log last ≡ record_of m
    there =
        let n = long in
        ap (λ (k : ℕ). take (k + 1) (drop (last - k) log)) trailer
        ∙ ap (take (length m + 1)) (drop_at before (record_of m ++ rest) (last - length m) (omega arith))
        ∙ take_at (record_of m) rest (length m + 1) long

    size : length (before ++ record_of m) ≡ length before + (length m + 1)
    size = length-append before (record_of m) ∙ ap (λ (k : ℕ). length before + k) long

    inside : last < length log
    inside = let n = size in simp (length-append) (omega arith)

    ps : List ℕ
    ps = places_of (m ∷ later) older

    ks : List (List ℕ)
    ks = kept_of (m ∷ later) older

    go : (t : Bool) → Stay log (length before) ps ks
        → Stay log (length (before ++ record_of m)) (ps ++ cond t [] (last ∷ [])) (cond t ks (m ∷ ks))
    go true s =
        let n = size in
        subst (λ (l : List ℕ). Stay log (length (before ++ record_of m)) l ks) (sym (append-nil ps))
        (record {
          apart = s.apart;
          below = below_more (length before) (length (before ++ record_of m)) ps (omega arith) s.below;
          records = s.records;
        })
    go false s =
        let n = size in
        let t = trailer in
        record {
          apart = apart_append log 0 (length before) ps last s.apart (omega arith) s.below inside (omega arith);
          below = below_append (length (before ++ record_of m)) ps (last ∷ [])
              (below_more (length before) (length (before ++ record_of m)) ps (omega arith) s.below)
              (omega arith, tt);
          records = records_append log ps (last ∷ [])
              ∙ ap₂ ◌++◌ s.records (records_one log last ∙ there);
        }

-- ---- what `make_room` promises

module _ (log : List ℕ) (used : ℕ) where
  refused : {n : ℕ} → n ≡ log_refusal log used → (n ≡ 0 → ⊥)
      → MakesRoom log used (record { number = n; length = 0 }) log
  unfolding won_of after_room
  refused {n} e h =
      let no = ne_eqb (log_refusal log used) 0 (λ z. h (e ∙ z)) in
      record {
        says = rw no (ap (λ (k : ℕ). record { number = k; length = 0 }) e);
        leaves = rw no refl;
      }

  pub room_16 : beyond log used ≡ true → MakesRoom log used (record { number = 16; length = 0 }) log
  room_16 h = refused (sym (log_16 log used h)) (λ z. omega arith)

  module _ (fits : beyond log used ≡ false) where
    pub room_17 : sound (take used log) ≡ false → MakesRoom log used (record { number = 17; length = 0 }) log
    room_17 h = refused (sym (log_else log used fits ∙ rw h refl)) (λ z. omega arith)

    module _ (sounds : sound (take used log) ≡ true) where
      messages : (ms : List (List ℕ)) × (records_of (take used log) ≡ some ms)
      messages = sound_records (take used log) sounds

      abbrev ms : List (List ℕ)
      ms = messages.0

      whole : joined ms ++ drop used log ≡ log
      whole =
          ap (λ (l : List ℕ). l ++ drop used log) (sym (records_joined (take used log) ms messages.1).bytes)
          ∙ take-append-drop used log

      places : places_in (take used log) ≡ places_of [] ms
      unfolding places_in
      places = ap (λ (w : Option (List (List ℕ))). places_of [] (Option.get_or w [])) messages.1

      bytes : smaller (take used log) ≡ joined (kept_of [] ms)
      unfolding smaller
      bytes = ap (λ (w : Option (List (List ℕ))). joined (kept_of [] (Option.get_or w []))) messages.1

      all : Stay log (length (joined ms)) (places_of [] ms) (kept_of [] ms)
      all =
          subst (λ (l : List ℕ). Stay l (length (joined ms)) (places_of [] ms) (kept_of [] ms)) whole
          (stay [] ms (drop used log))

      -- what `close_up` is lent
      module _ (ps : List ℕ) (is : ps ≡ places_in (take used log)) where
        pub lent_apart : Apart log 0 ps
        lent_apart = subst (Apart log 0) (sym (is ∙ places)) all.apart

        lent : records_at log ps ≡ smaller (take used log)
        lent = ap (records_at log) (is ∙ places) ∙ all.records ∙ sym bytes

        pub left_less : used ≤ length log → length (records_at log ps) ≤ used
        left_less inside =
            let n : length (joined ms) ≡ used =
            ap length (sym (records_joined (take used log) ms messages.1).bytes) ∙ length-take-le used log inside in
            let k = kept_shorter [] ms in
            let r = ap length (lent ∙ bytes) in
            omega arith

        pub room_made : {left : ℕ} {after : List ℕ} → left ≡ length (records_at log ps)
            → after ≡ laid log 0 (records_at log ps)
            → MakesRoom log used (record { number = 0; length = used - left }) after
        unfolding won_of after_room
        room_made {left} e f =
            let zero : log_refusal log used ≡ 0 = log_else log used fits ∙ rw sounds refl in
            record {
              says = rw zero (ap (λ (k : ℕ). record { number = 0; length = used - k }) (e ∙ ap length lent));
              leaves = rw zero (f ∙ ap (laid log 0) lent);
            }
