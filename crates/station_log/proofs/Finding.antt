-- Laws of the newest record about a zone: as the code looks for it, and where it stands. Assumes nothing.
use Prim.Native.Nat.{ℕ, ◌+◌, ◌-◌, ◌≤◌}
use native.Mathlib.Omega.{arith}
use mathlib.Core.Path.{◌≡◌, refl, sym, ap, ap₂, subst, ◌∙◌}
use mathlib.Core.Bool.{Bool, true, false, cond}
use mathlib.Core.Option.{Option, none, some, map, get_or}
use mathlib.Core.List.{List, [], ◌∷◌, ◌++◌}
use lib.Dec.{eqb}
use lib.ListN.{length, take, drop, length-append, length-drop, take-append-drop}
use lib.Seq.{take-length, drop_at, drop-append-le, take-append-le}
use borrow.Author.Tests.{eqb-true, ne_eqb}
use Rattle.std.specs.Prelude.{None, Some, Ok, Err}
use Rattle.standard.specs.declared.Refusal.{Refusal}
use Rattle.standard.specs.Questions.{Answered}
use Rattle.standard.specs.Refusals.{refusal_number}
use Rattle.station_log.specs.Log.{record_of, joined, walked_back, all_kept, records_of, is_list, sound}
use Rattle.station_log.specs.Log.{about, from_newest, first_record, first_place, newest_from, newest_of, newest_place, beyond}
use Rattle.station_log.specs.Log.{log_refusal, Place, found_of}
use Rattle.station_log.specs.Answers.{Finds}
use Rattle.station_log.specs.Places.{Ends, EndsWithNone, found_in}
use Rattle.station_log.proofs.Walking.{no_bytes, records_joined}
use Rattle.station_log.proofs.Backwards.{records_back, sound_at_end, sound_records, unsound_none}
use Rattle.station_log.proofs.Refusing.{log_16, log_else, asked}

abbrev pub nothing : ℕ → Place
nothing number = record { number = number; at = 0; length = 0 }

-- what is found is told by the list of records
abbrev listed : Option (List (List ℕ)) → ℕ → Place
listed w zone = record {
  number = cond (is_list w) 0 17;
  at = first_place (from_newest zone (get_or w []));
  length = length (first_record (from_newest zone (get_or w [])));
}

found_listed : (log : List ℕ) (zone : ℕ) → found_in log zone ≡ listed (records_of log) zone
unfolding found_in sound
found_listed log zone = refl

-- no log
pub found_unsound : (log : List ℕ) (zone : ℕ) → sound log ≡ false → found_in log zone ≡ nothing 17
unfolding from_newest first_place first_record
found_unsound log zone h =
    found_listed log zone ∙ ap (λ (w : Option (List (List ℕ))). listed w zone) (unsound_none log h)

-- an empty log has none
pub found_empty : (zone : ℕ) → found_in [] zone ≡ nothing 0
unfolding found_in sound records_of walked_back all_kept from_newest first_place first_record
found_empty zone = refl

-- a log at whose end no record stands is empty
pub found_all : (log : List ℕ) (zone : ℕ) → EndsWithNone log → sound log ≡ true → found_in log zone ≡ nothing 0
found_all log zone h s =
    ap (λ (l : List ℕ). found_in l zone) (no_bytes log (eqb-true (length log) 0 (sound_at_end log h ∙ s)))
    ∙ found_empty zone

module _ {log older m : List ℕ} (zone : ℕ) (b : Ends log older m) where
  -- a record about another zone is passed over
  pub found_other : about zone m ≡ false → found_in older zone ≡ found_in log zone
  unfolding from_newest
  found_other h =
      found_listed older zone
      ∙ go (records_of older)
      ∙ sym (found_listed log zone ∙ ap (λ (w : Option (List (List ℕ))). listed w zone) (records_back b))
    where
      go : (w : Option (List (List ℕ))) → listed w zone ≡ listed (map (λ ms. m ∷ ms) w) zone
      go none = refl
      go (some ms) = rw h refl

  -- a record about it is the newest, if all before it is a log
  pub found_here : about zone m ≡ true → sound older ≡ true
      → record { number = 0; at = length older; length = length log - length older } ≡ found_in log zone
  unfolding from_newest first_place first_record
  found_here h s =
      let all = sound_records older s in
      let place : length older ≡ length (joined all.0) = ap length (records_joined older all.0 all.1).bytes in
      let n = ap length b.bytes in
      let k = length-append older (record_of m) in
      let size : length log - length older ≡ length (record_of m) = omega arith in
      sym
      (found_listed log zone
      ∙ ap (λ (w : Option (List (List ℕ))). listed w zone) (records_back b ∙ ap (map (λ ms. m ∷ ms)) all.1)
      ∙ newest all.0
      ∙ sym (ap₂ (λ (p n : ℕ). record { number = 0; at = p; length = n }) place size))
    where
      newest : (ms : List (List ℕ))
          → listed (some (m ∷ ms)) zone
          ≡ record { number = 0; at = length (joined ms); length = length (record_of m) }
      newest ms = rw h refl

-- ---- as an answer says it

module _ {place : Place} where
  pub finds_none : place ≡ nothing 0 → Finds place (Ok None)
  finds_none e = rw e (record { says = refl; none = refl })

  pub finds_refused : (refusal : Refusal) → place ≡ nothing (refusal_number refusal) → Finds place (Err refusal)
  finds_refused refusal e = rw e (record { says = refl; none = refl })

  pub finds_one : (at size : ℕ) → record { number = 0; at = at; length = size } ≡ place → 1 ≤ size
      → Finds place (Ok (Some (record { at = at; length = size })))
  finds_one at size e some_bytes =
      record { says = e; none = sym (ap (λ (p : Place). eqb p.length 0) (sym e) ∙ ne_eqb size 0 (λ z. omega arith)) }

-- ---- where it stands

-- the newest record about a zone stands in the log of some messages
pub record Stands (log : List ℕ) (from : List (List ℕ)) : Type 0 where
  pub within : first_place from + length (first_record from) ≤ length log
  pub there : take (length (first_record from)) (drop (first_place from) log) ≡ first_record from

-- bytes behind it change nothing
stands_before : (log more : List ℕ) (from : List (List ℕ)) → Stands log from → Stands (log ++ more) from
stands_before log more from s =
    let place = first_place from in
    let size = length (first_record from) in
    let within = s.within in
    record {
      within = rw length-append (omega arith);
      there =
          ap (take size) (drop-append-le place log more (omega arith))
          ∙ take-append-le size (drop place log) more (rw length-drop (omega arith))
          ∙ s.there;
    }

pub newest_stands : (zone : ℕ) (ms : List (List ℕ)) → Stands (joined ms) (from_newest zone ms)
unfolding joined from_newest first_place first_record
newest_stands zone [] = record { within = omega arith; there = refl }
newest_stands zone (m ∷ older) = go (about zone m) (newest_stands zone older)
  where
    go : (t : Bool) → Stands (joined older) (from_newest zone older)
        → Stands (joined older ++ record_of m) (cond t (m ∷ older) (from_newest zone older))
    go true s =
        let size = length-append (joined older) (record_of m) in
        let within : length (joined older) + length (record_of m) ≤ length (joined older ++ record_of m) = omega arith in
        record {
          within = within;
          there =
              ap (take (length (record_of m))) (drop_at (joined older) (record_of m) (length (joined older)) refl)
              ∙ take-length (record_of m);
        }
    go false s = stands_before (joined older) (record_of m) (from_newest zone older) s

-- ---- in a buffer, of which some bytes are used

module _ (log : List ℕ) (used zone : ℕ) where
  pub found_beyond : beyond log used ≡ true → found_of log used zone ≡ nothing 16
  unfolding found_of
  found_beyond h = rw (log_16 log used h) refl

  pub found_used : beyond log used ≡ false → found_in (take used log) zone ≡ found_of log used zone
  unfolding found_of sound from_newest first_place first_record
  found_used h =
      found_listed (take used log) zone
      ∙ go (records_of (take used log))
      ∙ ap (λ (n : ℕ). record {
        number = n;
        at = cond (eqb n 0) (newest_place (take used log) zone) 0;
        length = cond (eqb n 0) (length (newest_of (take used log) zone)) 0;
      }) (sym (log_else log used h))
    where
      go : (w : Option (List (List ℕ)))
          → listed w zone ≡ record {
            number = cond (is_list w) 0 17;
            at = cond (eqb (cond (is_list w) 0 17) 0) (first_place (from_newest zone (get_or w []))) 0;
            length =
                cond (eqb (cond (is_list w) 0 17) 0) (length (first_record (from_newest zone (get_or w [])))) 0;
          }
      go none = refl
      go (some ms) = refl

-- THE PART THAT IS HANDED OUT IS THAT RECORD, and lies within the buffer
pub record Handed (log : List ℕ) (used zone : ℕ) (found : Place) : Type 0 where
  pub within : found.at + found.length ≤ length log
  pub part : take found.length (drop found.at log)
      ≡ cond (eqb (log_refusal log used) 0) (newest_of (take used log) zone) []

-- in a log that is not refused it stands in the buffer itself
stands_in : (log : List ℕ) (used zone : ℕ) → log_refusal log used ≡ 0 → Stands log (newest_from (take used log) zone)
stands_in log used zone e =
    let all = sound_records (take used log) (asked log used e).sounds in
    let ms = all.0 in
    let h = records_joined (take used log) ms all.1 in
    let from : newest_from (take used log) zone ≡ from_newest zone ms =
    ap (λ (w : Option (List (List ℕ))). from_newest zone (get_or w [])) all.1 in
    let whole : joined ms ++ drop used log ≡ log =
    ap (λ (l : List ℕ). l ++ drop used log) (sym h.bytes) ∙ take-append-drop used log in
    subst (λ (l : List ℕ). Stands l (newest_from (take used log) zone)) whole
    (subst (Stands (joined ms ++ drop used log)) (sym from)
    (stands_before (joined ms) (drop used log) (from_newest zone ms) (newest_stands zone ms)))

pub handed : (log : List ℕ) (used zone : ℕ) → Handed log used zone (found_of log used zone)
unfolding found_of
handed log used zone = go (eqb (log_refusal log used) 0) refl
  where
    go : (t : Bool) → eqb (log_refusal log used) 0 ≡ t
        → Handed log used zone (record {
          number = log_refusal log used;
          at = cond t (newest_place (take used log) zone) 0;
          length = cond t (length (newest_of (take used log) zone)) 0;
        })
    go true e =
        let s = stands_in log used zone (eqb-true (log_refusal log used) 0 e) in
        record { within = s.within; part = s.there ∙ rw e refl }
    go false e = record { within = omega arith; part = rw e refl }

-- so it is what `newest` answers
pub answered : (log : List ℕ) (used zone : ℕ) (place : Place) → place ≡ found_of log used zone
    → Answered [] (log_refusal log used) (newest_of (take used log) zone) place.number
    (take place.length (drop place.at log))
unfolding found_of
answered log used zone place e = record {
  says = ap (λ (x : Place). x.number) e;
  gives = (subst (Handed log used zone) (sym e) (handed log used zone)).part;
}
