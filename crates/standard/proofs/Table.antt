-- Laws of the writes of a table: what one leaves at each place, and what all of a list leave, one after another.
-- Assumes nothing.
use Prim.Native.Nat.{ℕ, zero, suc, ◌+◌, ◌*◌, ◌/◌, ◌%◌, ◌^◌, ◌≤◌, ◌<◌, max}
use native.Mathlib.Nat.{add-zero, le-max_left, le_refl, le_trans}
use native.Mathlib.Numerals.{add-one}
use native.Mathlib.Omega.{arith}
use mathlib.Core.Path.{◌≡◌, refl, sym, ap, ap₂, ◌∙◌, subst}
use mathlib.Core.Bool.{Bool, true, false, cond}
use mathlib.Core.List.{List, [], ◌∷◌, ◌++◌, flat_map, append-nil}
use lib.Arith.{bin_ind}
use lib.Bits.{bit_or, or_step, or_shr, or_self, or_zero_r}
use lib.Dec.{eqb}
use lib.ListN.{length, get_or, set, length-set}
use lib.Seq.{sets, sets-eq, get_or-set_same, get_or-set_other, ext_get_or}
use borrow.Author.Tests.{eq-eqb, ne_eqb, eqb-true, eqb-false}
use Rattle.standard.specs.Words.{bit, up_to, laid}
use Rattle.standard.specs.Table.{table_bytes, zone_place, partition_place, system_place, Write, stores, marks, done}
use Rattle.standard.specs.Table.{done_all, stores_from}
use Rattle.standard.proofs.Words.{flat_map_append, up_to_more}

-- ---- the layout: "256 zone records of 8, then 8 partition records of 9, then the system record of 12", which fill the
-- table

pub zone_next : (zone : ℕ) → zone_place (suc zone) ≡ zone_place zone + 8
zone_next zone = omega arith

pub partition_next : (partition : ℕ) → partition_place (suc partition) ≡ partition_place partition + 9
partition_next partition = omega arith

pub zones_first : zone_place 0 ≡ 0
zones_first = refl

pub then_partitions : zone_place 256 ≡ partition_place 0
then_partitions = refl

pub then_system : partition_place 8 ≡ system_place
then_system = refl

pub system_last : system_place + 12 ≡ table_bytes
system_last = refl

-- ---- bits

-- the lowest bit
or_odd : (a b : ℕ) → bit_or a b % 2 ≡ max (a % 2) (b % 2)
or_odd a b = let e = or_step a b in omega arith

-- three numbers, in either grouping
pub or_assoc : (a b c : ℕ) → bit_or (bit_or a b) c ≡ bit_or a (bit_or b c)
or_assoc = bin_ind (λ (a : ℕ). (b c : ℕ) → bit_or (bit_or a b) c ≡ bit_or a (bit_or b c)) (λ b c. refl) step
  where
    step : (a : ℕ) → ((b c : ℕ) → bit_or (bit_or (a / 2) b) c ≡ bit_or (a / 2) (bit_or b c)) → (b c : ℕ)
        → bit_or (bit_or a b) c ≡ bit_or a (bit_or b c)
    step a ih b c =
        or_step (bit_or a b) c
        ∙ ap₂ (λ (x y : ℕ). x * 2 + y)
        (ap (λ (x : ℕ). bit_or x (c / 2)) (or_shr a b 1) ∙ ih (b / 2) (c / 2) ∙ ap (bit_or (a / 2)) (sym (or_shr b c 1)))
        (let p = or_odd a b in let q = or_odd b c in omega arith)
        ∙ sym (or_step a (bit_or b c))

-- each bit by itself
pub bit_or_lem : (k a b : ℕ) → bit k (bit_or a b) ≡ max (bit k a) (bit k b)
bit_or_lem k a b = ap (λ (x : ℕ). x % 2) (or_shr a b k) ∙ or_odd (a / 2 ^ k) (b / 2 ^ k)

-- ---- one write

-- the place that a write names
abbrev pub place_of : Write → ℕ
place_of (stores place b) = place
place_of (marks place bits) = place

-- the byte that it leaves there, from the byte before
abbrev pub byte_left : Write → ℕ → ℕ
byte_left (stores place b) old = b
byte_left (marks place bits) old = bit_or old bits

-- a write is one store
done_set : (w : Write) (t : List ℕ) → done w t ≡ set t (place_of w) (byte_left w (get_or t (place_of w) 0))
done_set (stores place b) t = refl
done_set (marks place bits) t = refl

-- it keeps the length
pub done_length : (w : Write) (t : List ℕ) → length (done w t) ≡ length t
done_length w t = ap length (done_set w t) ∙ simp length-set

-- the place it names
pub done_here : (w : Write) (t : List ℕ) → place_of w < length t
    → get_or (done w t) (place_of w) 0 ≡ byte_left w (get_or t (place_of w) 0)
done_here w t h =
    ap (λ l. get_or l (place_of w) 0) (done_set w t) ∙ get_or-set_same t (place_of w) (byte_left w (get_or t (place_of w) 0)) 0 h

-- every other place
pub done_there : (w : Write) (t : List ℕ) (i : ℕ) → (i ≡ place_of w → ⊥) → get_or (done w t) i 0 ≡ get_or t i 0
done_there w t i h =
    ap (λ l. get_or l i 0) (done_set w t) ∙ get_or-set_other t (place_of w) i (byte_left w (get_or t (place_of w) 0)) 0 h

-- ---- all writes, place by place

-- all writes keep the length
pub done_all_length : (ws : List Write) (t : List ℕ) → length (done_all ws t) ≡ length t
unfolding done_all
done_all_length [] t = refl
done_all_length (w ∷ ws) t = done_all_length ws (done w t) ∙ done_length w t

-- one list of writes after another
pub done_all_append : (v w : List Write) (t : List ℕ) → done_all (v ++ w) t ≡ done_all w (done_all v t)
unfolding done_all
done_all_append [] w t = refl
done_all_append (x ∷ v) w t = done_all_append v w (done x t)

-- what a write leaves at a place, from the byte before
abbrev pub left_by : ℕ → Write → ℕ → ℕ
left_by i w old = cond (eqb i (place_of w)) (byte_left w old) old

-- what some writes leave at a place, one after another
unfoldable pub left_at : ℕ → List Write → ℕ → ℕ
left_at i [] old = old
left_at i (w ∷ ws) old = left_at i ws (left_by i w old)

-- one write, at any place of the table
done_at : (w : Write) (t : List ℕ) (i : ℕ) → i < length t → get_or (done w t) i 0 ≡ left_by i w (get_or t i 0)
done_at w t i h = go (eqb i (place_of w)) refl
  where
    go : (same : Bool) → eqb i (place_of w) ≡ same
        → get_or (done w t) i 0 ≡ cond same (byte_left w (get_or t i 0)) (get_or t i 0)
    go true e = let p = eqb-true i (place_of w) e in rw p (done_here w t (rw p at h))
    go false e = done_there w t i (eqb-false i (place_of w) e)

-- THE LAW of a place: its byte after all writes comes from its byte before, and from no other
pub done_all_at : (ws : List Write) (t : List ℕ) (i : ℕ) → i < length t
    → get_or (done_all ws t) i 0 ≡ left_at i ws (get_or t i 0)
unfolding done_all left_at
done_all_at [] t i h = refl
done_all_at (w ∷ ws) t i h = done_all_at ws (done w t) i (rw (done_length w t) h) ∙ ap (left_at i ws) (done_at w t i h)

-- and so of one list after another
pub left_at_append : (v w : List Write) (i old : ℕ) → left_at i (v ++ w) old ≡ left_at i w (left_at i v old)
unfolding left_at
left_at_append [] w i old = refl
left_at_append (x ∷ v) w i old = left_at_append v w i (left_by i x old)

-- ---- twice is once

-- what some writes do to a place: a byte is stored there, whatever stood there, or bits are set there
data Does : (ℕ → ℕ) → Type 0 where
  stored : {f : ℕ → ℕ} (b : ℕ) → ((old : ℕ) → f old ≡ b) → Does f
  marked : {f : ℕ → ℕ} (bits : ℕ) → ((old : ℕ) → f old ≡ bit_or old bits) → Does f

-- one write does one of the two
left_by_does : (i : ℕ) (w : Write) → Does (left_by i w)
left_by_does i w = go w (eqb i (place_of w)) refl
  where
    go : (v : Write) (same : Bool) → eqb i (place_of v) ≡ same → Does (left_by i v)
    go (stores place b) true e = stored {f = left_by i (stores place b)} b (λ old. rw e)
    go (marks place bits) true e = marked {f = left_by i (marks place bits)} bits (λ old. rw e)
    go v false e = marked {f = left_by i v} 0 (λ old. rw e (sym (or_zero_r old)))

-- and two after each other
then_does : {f g : ℕ → ℕ} → Does f → Does g → Does (λ old. g (f old))
then_does {f} {g} d (stored b h) = stored b (λ old. h (f old))
then_does {f} {g} (stored b h) (marked bits k) =
    stored (bit_or b bits) (λ old. k (f old) ∙ ap (λ (x : ℕ). bit_or x bits) (h old))
then_does {f} {g} (marked a h) (marked b k) =
    marked (bit_or a b) (λ old. k (f old) ∙ ap (λ (x : ℕ). bit_or x b) (h old) ∙ or_assoc old a b)

-- and so all of a list
left_at_does : (i : ℕ) (ws : List Write) → Does (left_at i ws)
unfolding left_at
left_at_does i [] = marked 0 (λ old. sym (or_zero_r old))
left_at_does i (w ∷ ws) = then_does (left_by_does i w) (left_at_does i ws)

-- either of them is done once and for all
does_twice : {f : ℕ → ℕ} → Does f → (old : ℕ) → f (f old) ≡ f old
does_twice {f} (stored b h) old = h (f old) ∙ sym (h old)
does_twice {f} (marked bits h) old =
    h (f old)
    ∙ ap (λ (x : ℕ). bit_or x bits) (h old)
    ∙ or_assoc old bits bits
    ∙ ap (bit_or old) (or_self bits)
    ∙ sym (h old)

-- so all writes of a list done twice are done once
pub done_all_twice : (ws : List Write) (t : List ℕ) → done_all ws (done_all ws t) ≡ done_all ws t
done_all_twice ws t = ext_get_or 0 (done_all ws (done_all ws t)) (done_all ws t) (done_all_length ws (done_all ws t)) at
  where
    at : (i : ℕ) → i < length (done_all ws (done_all ws t))
        → get_or (done_all ws (done_all ws t)) i 0 ≡ get_or (done_all ws t) i 0
    at i h =
        let k : i < length (done_all ws t) = rw (done_all_length ws (done_all ws t)) at h in
        let l : i < length t = rw (done_all_length ws t) at k in
        done_all_at ws (done_all ws t) i k
        ∙ ap (left_at i ws) (done_all_at ws t i l)
        ∙ does_twice (left_at_does i ws) (get_or t i 0)
        ∙ sym (done_all_at ws t i l)

-- ---- runs and turns

-- a run of stores, and where it fits
pub done_all_run : (place : ℕ) (bs t : List ℕ) → done_all (stores_from place bs) t ≡ sets t place bs
unfolding done_all stores_from
done_all_run place [] t = refl
done_all_run place (b ∷ bs) t = done_all_run (suc place) bs (set t place b)

-- and said as bytes laid over the table
pub done_all_laid : (place : ℕ) (bs t : List ℕ) → place + length bs ≤ length t
    → done_all (stores_from place bs) t ≡ laid t place bs
done_all_laid place bs t h = done_all_run place bs t ∙ sets-eq bs t place h

-- a record that is stored: bits of its mark are set, and a run follows it
pub mark_run : (place bits : ℕ) (bs t : List ℕ)
    → done_all (marks place bits ∷ stores_from (place + 1) bs) t
    ≡ sets (set t place (bit_or (get_or t place 0) bits)) (place + 1) bs
unfolding done_all
mark_run place bits bs t = done_all_run (place + 1) bs (set t place (bit_or (get_or t place 0) bits))

-- so a whole record stored at once, its mark first
pub record_stored : (place bits : ℕ) (bs t : List ℕ)
    → sets t place (bit_or (get_or t place 0) bits ∷ bs) ≡ done_all (marks place bits ∷ stores_from (place + 1) bs) t
record_stored place bits bs t =
    ap (λ (n : ℕ). sets (set t place (bit_or (get_or t place 0) bits)) n bs) (sym (add-one place))
    ∙ sym (mark_run place bits bs t)

-- the writes of one record more
turns_more : (f : ℕ → List Write) (n : ℕ) → flat_map f (up_to (n + 1)) ≡ flat_map f (up_to n) ++ f n
unfolding flat_map
turns_more f n =
    ap (flat_map f) (up_to_more n)
    ∙ flat_map_append f (up_to n) (n ∷ [])
    ∙ ap (λ l. flat_map f (up_to n) ++ l) (append-nil (f n))

-- the loop over records: one turn more
pub done_all_more : (f : ℕ → List Write) (n : ℕ) (t : List ℕ)
    → done_all (flat_map f (up_to (n + 1))) t ≡ done_all (f n) (done_all (flat_map f (up_to n)) t)
done_all_more f n t = ap (λ ws. done_all ws t) (turns_more f n) ∙ done_all_append (flat_map f (up_to n)) (f n) t

-- ---- places that no write names, and marks

-- every write is of a kind
abbrev pub Every : (Write → Type 0) → List Write → Type 0
Every P [] = Unit {0}
Every P (w ∷ ws) = P w × Every P ws

module _ (P : Write → Type 0) where
  -- in two lists, one after the other
  pub every_append : (v w : List Write) → Every P v → Every P w → Every P (v ++ w)
  every_append [] w p q = q
  every_append (x ∷ v) w p q = (p.0, every_append v w p.1 q)

  -- in a run, by the places of its bytes
  pub every_run : (place : ℕ) (bs : List ℕ)
      → ((k : ℕ) → k < length bs → P (stores (place + k) (get_or bs k 0))) → Every P (stores_from place bs)
  unfolding stores_from
  every_run place [] h = tt
  every_run place (b ∷ bs) h = (
    subst (λ (n : ℕ). P (stores n b)) (add-zero place) (h 0 (omega arith)),
    every_run (suc place) bs
        (λ k l. subst (λ (n : ℕ). P (stores n (get_or bs k 0))) (omega arith) (h (suc k) (omega arith))),
  )

  -- in the records of a loop, turn by turn
  pub every_turn : (f : ℕ → List Write) (n : ℕ) → ((j : ℕ) → j < n → Every P (f j)) → Every P (flat_map f (up_to n))
  unfolding flat_map up_to
  every_turn f zero h = tt
  every_turn f (suc n) h =
      subst (λ (k : ℕ). Every P (flat_map f (up_to k))) (add-one n)
      (subst (Every P) (sym (turns_more f n))
      (every_append (flat_map f (up_to n)) (f n) (every_turn f n (λ j l. h j (omega arith))) (h n (le_refl (suc n)))))

-- a write elsewhere
abbrev pub Elsewhere : ℕ → Write → Type 0
Elsewhere i w = i ≡ place_of w → ⊥

-- the first write names the place
pub left_here : (i : ℕ) (w : Write) (ws : List Write) (old : ℕ) → i ≡ place_of w
    → left_at i (w ∷ ws) old ≡ left_at i ws (byte_left w old)
unfolding left_at
left_here i w ws old h = ap (λ same. left_at i ws (cond same (byte_left w old) old)) (eq-eqb i (place_of w) h)

-- or does not
pub left_there : (i : ℕ) (w : Write) (ws : List Write) (old : ℕ) → Elsewhere i w
    → left_at i (w ∷ ws) old ≡ left_at i ws old
unfolding left_at
left_there i w ws old h = ap (λ same. left_at i ws (cond same (byte_left w old) old)) (ne_eqb i (place_of w) h)

-- writes elsewhere leave the byte
pub left_at_elsewhere : (i : ℕ) (ws : List Write) (old : ℕ) → Every (Elsewhere i) ws → left_at i ws old ≡ old
unfolding left_at
left_at_elsewhere i [] old h = refl
left_at_elsewhere i (w ∷ ws) old h = left_there i w ws old h.0 ∙ left_at_elsewhere i ws old h.1

-- a place that no write names stays, and so does all beyond the end
pub done_all_elsewhere : (ws : List Write) (t : List ℕ) (i : ℕ) → Every (Elsewhere i) ws
    → get_or (done_all ws t) i 0 ≡ get_or t i 0
unfolding done_all
done_all_elsewhere [] t i h = refl
done_all_elsewhere (w ∷ ws) t i h = done_all_elsewhere ws (done w t) i h.1 ∙ done_there w t i h.0

-- a write that stores nothing at a place: it may set bits there
abbrev pub NotStored : ℕ → Write → Type 0
NotStored i (stores place b) = i ≡ place → ⊥
NotStored i (marks place bits) = Unit {0}

-- bits that are set stay set, at a place where nothing is stored
pub left_at_set : (i k : ℕ) (ws : List Write) (old : ℕ) → Every (NotStored i) ws → bit k old ≤ bit k (left_at i ws old)
unfolding left_at
left_at_set i k [] old h = le_refl (bit k old)
left_at_set i k (w ∷ ws) old h =
    le_trans (one w (eqb i (place_of w)) refl h.0) (left_at_set i k ws (left_by i w old) h.1)
  where
    one : (v : Write) (same : Bool) → eqb i (place_of v) ≡ same → NotStored i v
        → bit k old ≤ bit k (cond same (byte_left v old) old)
    one (stores place b) true e p = absurd (p (eqb-true i place e))
    one (marks place bits) true e p = rw (bit_or_lem k old bits) (le-max_left (bit k old) (bit k bits))
    one v false e p = le_refl (bit k old)

-- the byte that a run stores at one of its places
pub left_at_run : (place k : ℕ) (bs : List ℕ) (old : ℕ) → k < length bs
    → left_at (place + k) (stores_from place bs) old ≡ get_or bs k 0
unfolding stores_from
left_at_run place k [] old h = absurd (omega arith)
left_at_run place zero (b ∷ bs) old h =
    left_here (place + 0) (stores place b) (stores_from (suc place) bs) old (add-zero place)
    ∙ left_at_elsewhere (place + 0) (stores_from (suc place) bs) b
    (every_run (Elsewhere (place + 0)) (suc place) bs (λ k l e. omega arith))
left_at_run place (suc k) (b ∷ bs) old h =
    left_there (place + suc k) (stores place b) (stores_from (suc place) bs) old (λ e. omega arith)
    ∙ subst (λ (n : ℕ). left_at n (stores_from (suc place) bs) old ≡ get_or bs k 0) (omega arith)
    (left_at_run (suc place) k bs old (omega arith))

-- a stored record: bits of its mark are set, and a run follows it
module _ (place bits : ℕ) (bs : List ℕ) where
  -- its mark
  pub record_mark : (old : ℕ) → left_at place (marks place bits ∷ stores_from (place + 1) bs) old ≡ bit_or old bits
  record_mark old =
      left_here place (marks place bits) (stores_from (place + 1) bs) old refl
      ∙ left_at_elsewhere place (stores_from (place + 1) bs) (bit_or old bits)
      (every_run (Elsewhere place) (place + 1) bs (λ k l e. omega arith))

  -- its bytes
  pub record_byte : (k old : ℕ) → k < length bs
      → left_at (place + 1 + k) (marks place bits ∷ stores_from (place + 1) bs) old ≡ get_or bs k 0
  record_byte k old h =
      left_there (place + 1 + k) (marks place bits) (stores_from (place + 1) bs) old (λ e. omega arith)
      ∙ left_at_run (place + 1) k bs old h

  -- every other place
  pub record_elsewhere : (i : ℕ) → ((k : ℕ) → k ≤ length bs → i ≡ place + k → ⊥)
      → Every (Elsewhere i) (marks place bits ∷ stores_from (place + 1) bs)
  record_elsewhere i h =
      let run = every_run (Elsewhere i) (place + 1) bs (λ k l e. h (suc k) l (omega arith)) in
      ((λ e. h 0 (omega arith) (omega arith)), run)

-- the byte that the one turn leaves that names a place
pub left_at_turn : (f : ℕ → List Write) (n i j old : ℕ) → j < n → ((k : ℕ) → (k ≡ j → ⊥) → Every (Elsewhere i) (f k))
    → left_at i (flat_map f (up_to n)) old ≡ left_at i (f j) old
left_at_turn f zero i j old l h = absurd (omega arith)
left_at_turn f (suc n) i j old l h =
    subst (λ (k : ℕ). left_at i (flat_map f (up_to k)) old ≡ left_at i (f j) old) (add-one n)
    (ap (λ ws. left_at i ws old) (turns_more f n)
    ∙ left_at_append (flat_map f (up_to n)) (f n) i old
    ∙ go (eqb n j) refl (λ p. left_at_turn f n i j old p h))
  where
    go : (last : Bool) → eqb n j ≡ last → (j < n → left_at i (flat_map f (up_to n)) old ≡ left_at i (f j) old)
        → left_at i (f n) (left_at i (flat_map f (up_to n)) old) ≡ left_at i (f j) old
    go true e before =
        let p : n ≡ j = eqb-true n j e in
        ap (left_at i (f n))
        (left_at_elsewhere i (flat_map f (up_to n)) old (every_turn (Elsewhere i) f n (λ k m. h k (λ q. omega arith))))
        ∙ ap (λ k. left_at i (f k) old) p
    go false e before =
        let p = eqb-false n j e in
        left_at_elsewhere i (f n) (left_at i (flat_map f (up_to n)) old) (h n p) ∙ before (omega arith)

-- ---- records that are heard: bit 0 of each one's mark is set, and its short byte, some bytes on, is stored

abbrev pub heard_turn : (ℕ → ℕ) → ℕ → (ℕ → ℕ) → ℕ → List Write
heard_turn place on short j = marks (place j) 1 ∷ stores (place j + on) (short j) ∷ []

-- the turn of a loop over such records
pub heard_more : (place : ℕ → ℕ) (on : ℕ) (short : ℕ → ℕ) (n : ℕ) (t : List ℕ) {now : List ℕ} {at b : ℕ}
    → now ≡ done_all (flat_map (heard_turn place on short) (up_to n)) t → at ≡ place n → b ≡ short n
    → set (set now at (bit_or (get_or now at 0) 1)) (at + on) b
    ≡ done_all (flat_map (heard_turn place on short) (up_to (n + 1))) t
unfolding done_all
heard_more place on short n t {now} {at} {b} e p q =
    ap₂ (λ (a c : ℕ). set (set now a (bit_or (get_or now a 0) 1)) (a + on) c) p q
    ∙ ap (done_all (heard_turn place on short n)) e
    ∙ sym (done_all_more (heard_turn place on short) n t)

module _ (place : ℕ → ℕ) (on : ℕ) (short : ℕ → ℕ)
    (apart : (i j : ℕ) → place i ≡ place j → i ≡ j)
    (off : (i j : ℕ) → place i ≡ place j + on → ⊥) where
  -- the mark of one of them
  pub heard_mark : (n j old : ℕ) → j < n
      → left_at (place j) (flat_map (heard_turn place on short) (up_to n)) old ≡ bit_or old 1
  heard_mark n j old h =
      left_at_turn (heard_turn place on short) n (place j) j old h (λ k d. ((λ e. d (sym (apart j k e))), (off j k, tt)))
      ∙ left_here (place j) (marks (place j) 1) (stores (place j + on) (short j) ∷ []) old refl
      ∙ left_at_elsewhere (place j) (stores (place j + on) (short j) ∷ []) (bit_or old 1) (off j j, tt)

  -- its short byte
  pub heard_short : (n j old : ℕ) → j < n
      → left_at (place j + on) (flat_map (heard_turn place on short) (up_to n)) old ≡ short j
  unfolding left_at
  heard_short n j old h =
      left_at_turn (heard_turn place on short) n (place j + on) j old h
      (λ k d. ((λ e. off k j (sym e)), ((λ e. d (sym (apart j k (omega arith)))), tt)))
      ∙ left_there (place j + on) (marks (place j) 1) (stores (place j + on) (short j) ∷ []) old (λ e. off j j (sym e))
      ∙ left_here (place j + on) (stores (place j + on) (short j)) [] old refl
