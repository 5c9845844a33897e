-- Laws of moving records to the beginning, where each stands behind what was moved before. Assumes nothing.
use Prim.Native.Nat.{ℕ, suc, ◌+◌, ◌-◌, ◌≤◌, ◌<◌}
use native.Mathlib.Nat.{add-zero, zero-add}
use native.Mathlib.Numerals.{add-one}
use native.Mathlib.Omega.{arith}
use mathlib.Core.Path.{◌≡◌, refl, sym, ap, ap₂, subst, ◌∙◌}
use mathlib.Core.List.{List, [], ◌∷◌, ◌++◌, append_assoc, append-nil}
use lib.ListN.{length, get_or, take, drop, set, length-take, length-drop}
use lib.Seq.{sets, drop-set-lt, get_or-drop, take-suc, take-length, drop-cons, sets-eq}
use Rattle.standard.specs.Words.{Put, laid}
use Rattle.standard.proofs.Put.{put_then, put_length, put_laid}
use Rattle.station_log.specs.Cells.{record_at, records_at, Apart}

-- ---- what stands behind the stores

sets_behind : (vs l : List ℕ) (i k : ℕ) → i + length vs ≤ k → drop k (sets l i vs) ≡ drop k l
sets_behind [] l i k h = refl
sets_behind (a ∷ vs) l i k h = sets_behind vs (set l i a) (suc i) k (omega arith) ∙ drop-set-lt k l i a (omega arith)

-- what was put changes nothing behind it
pub put_behind : {l part l' : List ℕ} {i n : ℕ} (k : ℕ) → Put l i part l' n → n ≤ k → drop k l' ≡ drop k l
put_behind {l} {part} {l'} {i} {n} k p h =
    let e = p.end in ap (drop k) p.bytes ∙ sets_behind part l i k (omega arith)

pub put_there : {l part l' : List ℕ} {i n : ℕ} (k : ℕ) → Put l i part l' n → n ≤ k → get_or l' k 0 ≡ get_or l k 0
put_there {l} {part} {l'} {i} {n} k p h = sym (at l') ∙ ap (λ (r : List ℕ). get_or r 0 0) (put_behind k p h) ∙ at l
  where
    at : (r : List ℕ) → get_or (drop k r) 0 0 ≡ get_or r k 0
    at r = get_or-drop k r 0 0 ∙ ap (λ (j : ℕ). get_or r j 0) (add-zero k)

-- ---- one record

-- a record's length
pub record_long : (log : List ℕ) (last : ℕ) → last < length log → get_or log last 0 ≤ last
    → length (record_at log last) ≡ get_or log last 0 + 1
record_long log last inside fits = rw (length-take, length-drop) (omega arith)

-- ---- records, one after another

pub records_append : (log : List ℕ) (a b : List ℕ) → records_at log (a ++ b) ≡ records_at log a ++ records_at log b
unfolding records_at
records_append log [] b = refl
records_append log (last ∷ a) b =
    ap (λ (r : List ℕ). record_at log last ++ r) (records_append log a b)
    ∙ sym (append_assoc (record_at log last) (records_at log a) (records_at log b))

pub records_one : (log : List ℕ) (last : ℕ) → records_at log (last ∷ []) ≡ record_at log last
unfolding records_at
records_one log last = append-nil (record_at log last)

-- those that stand apart behind a place stand so behind a lower one
pub apart_lower : (log : List ℕ) (low less : ℕ) (places : List ℕ) → less ≤ low → Apart log low places
    → Apart log less places
unfolding Apart
apart_lower log low less [] h a = tt
apart_lower log low less (last ∷ places) h a = let l = a.1 in (a.0, omega arith, a.2)

-- the records at the first places are moved, and the others still stand apart behind them
pub record Moved (log places log' : List ℕ) (to i : ℕ) : Type 0 where
  pub moved : Put log 0 (records_at log (take i places)) log' to
  pub apart : Apart log to (drop i places)
  pub within : i ≤ length places
  pub fits : to ≤ length log

pub moved_none : (log places : List ℕ) → Apart log 0 places → Moved log places log 0 0
unfolding records_at
moved_none log places a = record {
  moved = record { bytes = refl; end = refl };
  apart = a;
  within = omega arith;
  fits = omega arith;
}

-- what is known of the next
pub record Next (log log' : List ℕ) (to last : ℕ) : Type 0 where
  pub inside : last < length log'
  pub behind : to + get_or log' last 0 ≤ last
  pub same : record_at log' last ≡ record_at log last

module _ (log places log' : List ℕ) (to i : ℕ) (m : Moved log places log' to i) (more : i < length places) where
  abbrev last : ℕ
  last = get_or places i 0

  ahead : Apart log to (last ∷ drop (suc i) places)
  ahead = subst (Apart log to) (drop-cons places i 0 more) m.apart

  first : (last < length log) × (to + get_or log last 0 ≤ last) × Apart log (suc last) (drop (suc i) places)
  unfolding Apart
  first = ahead

  trailer : get_or log' last 0 ≡ get_or log last 0
  trailer = let b = first.1 in put_there last m.moved (omega arith)

  pub next : Next log log' to last
  next =
      let b = first.1 in
      let t = trailer in
      let n = put_length m.moved in
      let inside = first.0 in
      record {
        inside = omega arith;
        behind = omega arith;
        same =
            ap₂ (λ (k : ℕ) (r : List ℕ). take (k + 1) r) trailer
            (ap (λ (k : ℕ). drop (last - k) log') trailer
            ∙ put_behind (last - get_or log last 0) m.moved (omega arith));
      }

  -- and it is moved
  pub moved_one : {log'' : List ℕ} → log'' ≡ laid log' to (record_at log' last)
      → Moved log places log'' (to + (get_or log' last 0 + 1)) (i + 1)
  moved_one {log''} e =
      let b = first.1 in
      let t = trailer in
      let x = next in
      let n = put_length m.moved in
      let inside = x.inside in
      let behind = x.behind in
      let long = record_long log' last inside (omega arith) in
      let fit : to + length (record_at log' last) ≤ length log' = omega arith in
      let one : Put log' to (record_at log' last) log'' (to + (get_or log' last 0 + 1)) =
      record { bytes = e ∙ sym (sets-eq (record_at log' last) log' to fit); end = ap (λ (k : ℕ). to + k) (sym long) } in
      let two = put_then m.moved one in
      let all : records_at log (take i places) ++ record_at log' last ≡ records_at log (take (i + 1) places) =
      ap (λ (r : List ℕ). records_at log (take i places) ++ r) (x.same ∙ sym (records_one log last))
      ∙ sym (records_append log (take i places) (last ∷ []))
      ∙ ap (records_at log) (sym (ap (λ (k : ℕ). take k places) (add-one i) ∙ take-suc places i 0 more)) in
      record {
        moved = record {
          bytes = two.bytes ∙ ap (sets log 0) all;
          end = two.end ∙ ap (λ (r : List ℕ). 0 + length r) all;
        };
        apart = subst (λ (k : ℕ). Apart log (to + (get_or log' last 0 + 1)) (drop k places)) (sym (add-one i))
            (apart_lower log (suc last) (to + (get_or log' last 0 + 1)) (drop (suc i) places) (omega arith) first.2);
        within = omega arith;
        fits = omega arith;
      }

-- all are moved
pub moved_all : (log places log' : List ℕ) (to i : ℕ) → Moved log places log' to i → i ≡ length places
    → (to ≡ length (records_at log places)) × (log' ≡ laid log 0 (records_at log places))
moved_all log places log' to i m e =
    let whole : take i places ≡ places = ap (λ (k : ℕ). take k places) e ∙ take-length places in
    let size = m.moved.end in
    let fits = m.fits in
    let part = ap (records_at log) whole in (
      size ∙ zero-add (length (records_at log (take i places))) ∙ ap length part,
      put_laid m.moved (omega arith) ∙ ap (laid log 0) part,
    )
