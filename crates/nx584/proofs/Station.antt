-- THE STATION LOG IN C'S NUMBERS: what a host makes of its buffer and its used length by `used += length` and
-- `used -= length`, which numbers it gets, and where a record stands. Assumes nothing.
use Prim.Native.Nat.{ℕ, ◌+◌, ◌-◌, ◌≤◌}
use mathlib.Core.Path.{◌≡◌, sym, ap, subst, ◌∙◌}
use mathlib.Core.Bool.{true, cond}
use mathlib.Core.List.{List, [], ◌∷◌}
use lib.Dec.{eqb}
use lib.ListN.{length, get_or, take, drop}
use borrow.Fn.Kinds.{Dens, ended_of, res_t}
use contract.Lifetimes.{Lfts}
use denote.Triple.Clauses.{AtExit}
use Rattle.standard.specs.Words.{Bytes}
use Rattle.standard.specs.Messages.{among, is_status}
use Rattle.station_log.specs.Log.{Place, newest_of, log_refusal, keep_refusal, added_of}
use Rattle.std.specs.Prelude.{Option, Result}
use Rattle.standard.specs.declared.Refusal.{Refusal}
use Rattle.station_log.specs.declared.Found.{Found}
use Rattle.station_log.specs.Answers.{place_in, Finds}
use Rattle.station_log.proofs.Unique.{places_same}
use Rattle.station_log.specs.Room.{won_of}
use Rattle.station_log.specs.Runs.{Station, empty, keeping, keeping_all, making, Call, calling_all}
use Rattle.station_log.proofs.Refusing.{Asked, asked_none, log_numbers, of_the_kept, of_any, all_numbers}
use Rattle.station_log.proofs.Finding.{handed}
use Rattle.station_log.proofs.Keeping.{keep_numbers, keeping_asked, all_asked, empty_asked}
use Rattle.station_log.proofs.Making.{won_less, made_beyond, made_asked, calls_asked}
use Rattle.station_log.proofs.Newer.{none_at_0}
use Rattle.station_log.proofs.Always.{in_memory, never_full}
use Rattle.nx584.specs.declared.CWritten.{CWritten}
use Rattle.nx584.specs.declared.CFound.{CFound}
use Rattle.nx584.specs.Station.{c_found}
use Rattle.nx584.proofs.nx584_keep.Kinds as keep-kinds
use Rattle.nx584.proofs.nx584_keep.Reads as keep
use Rattle.nx584.proofs.nx584_make_room.Kinds as room-kinds
use Rattle.nx584.proofs.nx584_make_room.Reads as room
use Rattle.nx584.proofs.nx584_newest.Kinds as newest-kinds
use Rattle.nx584.proofs.nx584_newest.Reads as newest

-- C's numbers tell the place
pub found_once : (f g : Place) → c_found f ≡ c_found g → f ≡ g
found_once f g e = ap (λ (c : CFound). record { number = c.number; at = c.at; length = c.length }) e

-- and the answer: two answers of `find` that have the same are one
pub found_said_once : {p q : Place} (x y : Result (Option Found) Refusal) → Finds p x → Finds q y
    → c_found (place_in x) ≡ c_found (place_in y) → x ≡ y
found_said_once x y f g e =
    let same : place_in x ≡ place_in y = found_once (place_in x) (place_in y) e in
    places_same x y same (f.none ∙ ap (λ (p : Place). eqb p.length 0) (sym f.says ∙ same ∙ g.says) ∙ sym g.none)

-- a station whose log no call refuses
abbrev AskedIn : Station → Type 0
AskedIn s = Asked s.buffer s.used

-- ---- keeping

module _ (κs : Lfts 2) (a : Dens κs keep-kinds.ps) (e : AtExit (ended_of 2 keep-kinds.ps keep-kinds.r) κs)
    (x : (res_t keep-kinds.r κs).Denot) (p : keep.Post κs a x e) where
  -- `used += length` IS RIGHT AFTER EVERY CALL, refused or not: buffer and used length are then the station's
  pub c_keeping : ◌≡◌ {A = Station} (record { buffer = e.0.now; used = a.1.0 + x.length })
      (keeping (record { buffer = a.0.now; used = a.1.0 }) a.1.1.0.now)
  unfolding keeping
  c_keeping = λ j. record { buffer = p.leaves j; used = a.1.0 + (p.says j).length }

  -- every answer has one of these numbers
  pub c_keep_numbers : of_any x.number ≡ true
  unfolding added_of
  c_keep_numbers =
      ap (λ (w : CWritten). of_any w.number) p.says
      ∙ all_numbers a.0.now a.1.0 a.1.1.0.now

  -- a log that is not refused gets neither 16 nor 17, and is not refused afterwards
  pub c_kept_asked : Asked a.0.now a.1.0
      → (of_the_kept x.number ≡ true) × Asked e.0.now (a.1.0 + x.length)
  unfolding added_of
  c_kept_asked h = (
    ap (λ (w : CWritten). of_the_kept w.number) p.says ∙ keep_numbers a.0.now a.1.0 a.1.1.0.now h,
    subst AskedIn (sym c_keeping)
        (keeping_asked (record { buffer = a.0.now; used = a.1.0 }) a.1.1.0.now h),
  )

  -- A HOST THAT BEGAN WITH AN EMPTY LOG AND CHANGED IT BY THIS CALL ALONE never gets 16 or 17
  pub c_kept_alone : (buffer : List ℕ) (ms : List (List ℕ))
      → ◌≡◌ {A = Station} (record { buffer = a.0.now; used = a.1.0 }) (keeping_all (empty buffer) ms)
      → of_the_kept x.number ≡ true
  c_kept_alone buffer ms s =
      (c_kept_asked (subst AskedIn (sym s) (all_asked (empty buffer) ms (empty_asked buffer)))).0

  -- nor does one that made room in between, in whatever order
  pub c_calls_kept : (buffer : List ℕ) (cs : List Call)
      → ◌≡◌ {A = Station} (record { buffer = a.0.now; used = a.1.0 }) (calling_all (empty buffer) cs)
      → of_the_kept x.number ≡ true
  c_calls_kept buffer cs s =
      (c_kept_asked (subst AskedIn (sym s) (calls_asked (empty buffer) cs (empty_asked buffer)))).0

-- ---- making room

module _ (κs : Lfts 1) (a : Dens κs room-kinds.ps) (e : AtExit (ended_of 1 room-kinds.ps room-kinds.r) κs)
    (x : (res_t room-kinds.r κs).Denot) (p : room.Post κs a x e) where
  -- `used -= length` IS RIGHT AFTER EVERY CALL, refused or not: buffer and used length are then the station's
  pub c_making : ◌≡◌ {A = Station} (record { buffer = e.0.now; used = a.1.0 - x.length })
      (making (record { buffer = a.0.now; used = a.1.0 }))
  unfolding making
  c_making = λ j. record { buffer = p.leaves j; used = a.1.0 - (p.says j).length }

  -- and it never wraps in C: no more is won than was used
  pub c_made_less : x.length ≤ a.1.0
  c_made_less =
      subst (λ (w : CWritten). w.length ≤ a.1.0) (sym p.says)
      (won_less (record { buffer = a.0.now; used = a.1.0 }))

  -- THE BYTES FROM THE NEW USED LENGTH ON ARE AS THEY WERE
  pub c_beyond : (i : ℕ) → a.1.0 - x.length ≤ i → get_or e.0.now i 0 ≡ get_or a.0.now i 0
  c_beyond i =
      subst (λ (t : Station). t.used ≤ i → get_or t.buffer i 0 ≡ get_or a.0.now i 0) (sym c_making)
      (made_beyond (record { buffer = a.0.now; used = a.1.0 }) i)

  -- every answer has one of these numbers
  pub c_room_numbers : among x.number (0 ∷ 16 ∷ 17 ∷ []) ≡ true
  unfolding won_of
  c_room_numbers =
      ap (λ (w : CWritten). among w.number (0 ∷ 16 ∷ 17 ∷ [])) p.says ∙ log_numbers a.0.now a.1.0

  -- a log that is not refused gets 0, and is not refused afterwards
  pub c_made_asked : Asked a.0.now a.1.0 → (x.number ≡ 0) × Asked e.0.now (a.1.0 - x.length)
  unfolding won_of
  c_made_asked h = (
    ap (λ (w : CWritten). w.number) p.says ∙ asked_none a.0.now a.1.0 h,
    subst AskedIn (sym c_making) (made_asked (record { buffer = a.0.now; used = a.1.0 }) h),
  )

  -- A HOST THAT BEGAN WITH AN EMPTY LOG AND CHANGED IT BY THE TWO CALLS ALONE, in whatever order, never gets 16 or 17
  pub c_calls_made : (buffer : List ℕ) (cs : List Call)
      → ◌≡◌ {A = Station} (record { buffer = a.0.now; used = a.1.0 }) (calling_all (empty buffer) cs)
      → x.number ≡ 0
  c_calls_made buffer cs s =
      (c_made_asked (subst AskedIn (sym s) (calls_asked (empty buffer) cs (empty_asked buffer)))).0

  -- A BUFFER OF `NX584_LOG_ENOUGH` BYTES IS NEVER FULL after this call: every message that a log keeps is then kept
  pub c_never_full : (m : List ℕ) → Asked a.0.now a.1.0 → Bytes a.0.now → 5236 ≤ length a.0.now
      → is_status m ≡ true → keep_refusal e.0.now (a.1.0 - x.length) m ≡ 0
  c_never_full m h bytes enough k =
      let s : Station = record { buffer = a.0.now; used = a.1.0 } in
      ap (λ (t : Station). keep_refusal t.buffer t.used m) c_making
      ∙ never_full s m (in_memory s h bytes) enough k

-- ---- finding

module _ (κs : Lfts 1) (a : Dens κs newest-kinds.ps) (e : AtExit (ended_of 1 newest-kinds.ps newest-kinds.r) κs)
    (x : (res_t newest-kinds.r κs).Denot) (p : newest.Post κs a x e) where
  -- THE BYTES THAT C IS TOLD ARE WITHIN ITS BUFFER, and are the newest record
  pub c_found_there : (x.at + x.length ≤ length a.0.now)
      × (take x.length (drop x.at a.0.now)
      ≡ cond (eqb (log_refusal a.0.now a.1.0) 0) (newest_of (take a.1.0 a.0.now) a.1.1.0) [])
  c_found_there =
      let h = handed a.0.now a.1.0 a.1.1.0 in
      subst (λ (c : CFound). (c.at + c.length ≤ length a.0.now)
      × (take c.length (drop c.at a.0.now)
      ≡ cond (eqb (log_refusal a.0.now a.1.0) 0) (newest_of (take a.1.0 a.0.now) a.1.1.0) []))
      (sym p) (h.within, h.part)

  -- `at` is 0 where `length` is 0
  pub c_at_0 : x.length ≡ 0 → x.at ≡ 0
  c_at_0 z =
      ap (λ (c : CFound). c.at) p
      ∙ none_at_0 a.0.now a.1.0 a.1.1.0 (sym (ap (λ (c : CFound). c.length) p) ∙ z)
