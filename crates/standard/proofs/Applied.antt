-- Laws of applying a message: its refusals, what each message leaves at each place, and that marks are never cleared.
-- Assumes nothing.
use Prim.Native.Nat.{ℕ, suc, ◌+◌, ◌/◌, ◌≤◌, ◌<◌}
use native.Mathlib.Nat.{le_refl}
use native.Mathlib.Omega.{arith}
use mathlib.Core.Path.{◌≡◌, refl, sym, ap, ◌∙◌}
use mathlib.Core.Bool.{Bool, true, false, cond, not}
use mathlib.Core.List.{List, [], ◌∷◌, flat_map}
use lib.Bits.{bit_or}
use lib.Dec.{eqb}
use lib.ListN.{length, get_or, take, drop, length-take, length-drop}
use lib.Seq.{get_or-take, get_or-drop}
use borrow.Author.Tests.{eq-eqb, ne_eqb, eqb-true, eqb-false}
use Rattle.standard.specs.Words.{byte, bit, up_to, first_of}
use Rattle.standard.specs.Messages.{number_of, message_tests, check_of}
use Rattle.standard.specs.Table.{table_bytes, zone_place, partition_place, system_place, zone_mark, zone_short}
use Rattle.standard.specs.Table.{short_from, four_bits, zone_writes, short_writes, partition_writes, partition_short}
use Rattle.standard.specs.Table.{system_writes, writes_of}
use Rattle.standard.specs.Table.{Write, done_all, apply_refusal, applied_to, Applied}
use Rattle.standard.specs.Questions.{table_refusal}
use Rattle.standard.proofs.Messages.{passed, check_after, passed_offset, passed_partition, passed_number}
use Rattle.standard.proofs.Questions.{asked_whole, whole_asked}
use Rattle.standard.proofs.Table.{done_all_length, done_all_twice, done_all_at, done_all_elsewhere}
use Rattle.standard.proofs.Table.{left_at, left_at_run, left_at_set, record_mark, record_byte, record_elsewhere}
use Rattle.standard.proofs.Table.{heard_mark, heard_short}
use Rattle.standard.proofs.Table.{Every, Elsewhere, NotStored, every_run, every_turn}

-- ---- refused, or taken

-- "Order of refusal: 11, 4, 6, 7, 8": the table's own, and then the message's
pub refusal_after : (t m : List ℕ) → apply_refusal t m ≡ cond (eqb (table_refusal t) 0) (check_of m) (table_refusal t)
unfolding apply_refusal table_refusal
refusal_after t m = check_after (not (eqb (length t) table_bytes)) 11 m ∙ go (eqb (length t) table_bytes)
  where
    go : (whole : Bool)
        → cond (not whole) 11 (check_of m)
        ≡ cond (eqb (first_of ((not whole, 11) ∷ [])) 0) (check_of m) (first_of ((not whole, 11) ∷ []))
    go true = refl
    go false = refl

-- it goes by the table's length alone
refusal_same : (t u m : List ℕ) → length t ≡ length u → apply_refusal t m ≡ apply_refusal u m
unfolding apply_refusal
refusal_same t u m h = ap (λ n. first_of ((not (eqb n table_bytes), 11) ∷ message_tests m)) h

-- a message of number n that is taken
pub record Taken (n : ℕ) (t m : List ℕ) : Type 0 where
  pub number : number_of (byte 1 m) ≡ n
  pub whole : length t ≡ table_bytes
  pub good : check_of m ≡ 0

-- its refusal is none
pub taken_says : {n : ℕ} {t m : List ℕ} → Taken n t m → apply_refusal t m ≡ 0
taken_says {n} {t} {m} k = refusal_after t m ∙ rw (eq-eqb (table_refusal t) 0 (whole_asked t k.whole)) k.good

-- what is not refused is taken
pub taken_by_lem : (t m : List ℕ) → apply_refusal t m ≡ 0 → Taken (number_of (byte 1 m)) t m
taken_by_lem t m h = go (eqb (table_refusal t) 0) refl (sym (refusal_after t m) ∙ h)
  where
    go : (ok : Bool) → eqb (table_refusal t) 0 ≡ ok → cond ok (check_of m) (table_refusal t) ≡ 0
        → Taken (number_of (byte 1 m)) t m
    go true e z = record { number = refl; whole = asked_whole t (eqb-true (table_refusal t) 0 e); good = z }
    go false e z = absurd (eqb-false (table_refusal t) 0 e z)

-- the table afterwards
pub refused_leaves : (t m : List ℕ) → (apply_refusal t m ≡ 0 → ⊥) → applied_to t m ≡ t
unfolding applied_to
refused_leaves t m h = rw (ne_eqb (apply_refusal t m) 0 h)

pub taken_leaves : {n : ℕ} {t m : List ℕ} → Taken n t m → applied_to t m ≡ done_all (writes_of n m) t
unfolding applied_to
taken_leaves {n} {t} {m} k =
    rw (eq-eqb (apply_refusal t m) 0 (taken_says k)) (ap (λ a. done_all (writes_of a m) t) k.number)

-- what `apply` promises in each case
pub refused_applied : (t m : List ℕ) {number : ℕ} → number ≡ apply_refusal t m → (number ≡ 0 → ⊥) → Applied t m number t
refused_applied t m e h = record { says = e; leaves = sym (refused_leaves t m (λ z. h (e ∙ z))) }

pub taken_applied : {n : ℕ} {t m after : List ℕ} → Taken n t m → after ≡ done_all (writes_of n m) t → Applied t m 0 after
taken_applied k e = record { says = sym (taken_says k); leaves = e ∙ sym (taken_leaves k) }

-- ---- every message

-- what the table has, and has after the writes of a message, it has after the message, refused or not
pub applied_has : (P : List ℕ → Type 0) {n : ℕ} (t m : List ℕ) → number_of (byte 1 m) ≡ n → P t
    → P (done_all (writes_of n m) t) → P (applied_to t m)
unfolding applied_to
applied_has P {n} t m e p q = go (eqb (apply_refusal t m) 0)
  where
    go : (ok : Bool) → P (cond ok (done_all (writes_of (number_of (byte 1 m)) m) t) t)
    go true = rw e q
    go false = p

-- every message keeps the length
pub applied_length : (t m : List ℕ) → length (applied_to t m) ≡ length t
applied_length t m =
    applied_has (λ l. length l ≡ length t) t m refl refl (done_all_length (writes_of (number_of (byte 1 m)) m) t)

-- so the table is refused afterwards where it was refused before
pub applied_refusal : (t m : List ℕ) → table_refusal (applied_to t m) ≡ table_refusal t
unfolding table_refusal
applied_refusal t m = ap (λ n. first_of ((not (eqb n table_bytes), 11) ∷ [])) (applied_length t m)

-- the same message twice is the message once
pub applied_twice : (t m : List ℕ) → applied_to (applied_to t m) m ≡ applied_to t m
unfolding applied_to
applied_twice t m =
    ap (λ n. cond (eqb n 0) (done_all ws (applied_to t m)) (applied_to t m))
    (refusal_same (applied_to t m) t m (applied_length t m))
    ∙ go (eqb (apply_refusal t m) 0)
  where
    ws : List Write
    ws = writes_of (number_of (byte 1 m)) m

    go : (ok : Bool)
        → cond ok (done_all ws (cond ok (done_all ws t) t)) (cond ok (done_all ws t) t) ≡ cond ok (done_all ws t) t
    go true = done_all_twice ws t
    go false = refl

-- what holds of the writes of each of the five numbers, and of none, holds of every message's
pub writes_are : (P : List Write → Type 0) (n : ℕ) (m : List ℕ)
    → (n ≡ 0x04 → P (zone_writes m))
    → (n ≡ 0x05 → P (flat_map (short_writes m) (up_to 16)))
    → (n ≡ 0x06 → P (partition_writes m))
    → (n ≡ 0x07 → P (flat_map (partition_short m) (up_to 8)))
    → (n ≡ 0x08 → P (system_writes m))
    → P []
    → P (writes_of n m)
unfolding writes_of
writes_are P n m a b c d e f = case 0x04 a (case 0x05 b (case 0x06 c (case 0x07 d (case 0x08 e f))))
  where
    go : (same : Bool) (k : ℕ) {x y : List Write} → eqb n k ≡ same → (n ≡ k → P x) → P y → P (cond same x y)
    go true k h p q = p (eqb-true n k h)
    go false k h p q = q

    case : (k : ℕ) {x y : List Write} → (n ≡ k → P x) → P y → P (cond (eqb n k) x y)
    case k p q = go (eqb n k) k refl p q

-- no other number writes
pub none_written : (n : ℕ) (m t : List ℕ) → (n ≡ 0x04 → ⊥) → (n ≡ 0x05 → ⊥) → (n ≡ 0x06 → ⊥) → (n ≡ 0x07 → ⊥)
    → (n ≡ 0x08 → ⊥)
    → done_all (writes_of n m) t ≡ t
unfolding done_all
none_written n m t a b c d e =
    writes_are (λ ws. done_all ws t ≡ t) n m (λ h. absurd (a h)) (λ h. absurd (b h)) (λ h. absurd (c h))
    (λ h. absurd (d h))
    (λ h. absurd (e h)) refl

-- ---- what each message leaves

-- what 04h stores, from a zone's mask to its short flags
abbrev pub zone_run : List ℕ → List ℕ
zone_run m = byte 3 m ∷ byte 4 m ∷ byte 5 m ∷ byte 6 m ∷ byte 7 m ∷ byte 8 m ∷ short_from (byte 7 m) (byte 8 m) ∷ []

module _ (t m : List ℕ) where
  -- a place that no write of number n names stays, refused or not
  stays : {n : ℕ} (i : ℕ) → number_of (byte 1 m) ≡ n → Every (Elsewhere i) (writes_of n m)
      → get_or (applied_to t m) i 0 ≡ get_or t i 0
  stays {n} i e h = applied_has (λ l. get_or l i 0 ≡ get_or t i 0) t m e refl (done_all_elsewhere (writes_of n m) t i h)

  -- the byte that a message which is taken leaves at a place
  left : {n : ℕ} (i : ℕ) → Taken n t m → i < table_bytes
      → get_or (applied_to t m) i 0 ≡ left_at i (writes_of n m) (get_or t i 0)
  left {n} i k h = ap (λ l. get_or l i 0) (taken_leaves k) ∙ done_all_at (writes_of n m) t i (rw k.whole h)

  -- "All other messages leave the table's bytes alike"
  pub others_keep : (0x04 ≤ number_of (byte 1 m) → number_of (byte 1 m) ≤ 0x08 → ⊥) → applied_to t m ≡ t
  others_keep h =
      applied_has (λ l. l ≡ t) t m refl refl
      (none_written (number_of (byte 1 m)) m t (λ e. h (omega arith) (omega arith)) (λ e. h (omega arith) (omega arith))
      (λ e. h (omega arith) (omega arith)) (λ e. h (omega arith) (omega arith)) (λ e. h (omega arith) (omega arith)))

  -- "04h stores its bytes 3-8, sets mark bits 0 and 1, and sets the short flags", for a zone that is a byte
  pub zone_mark_lem : Taken 0x04 t m → byte 2 m < 256
      → zone_mark (applied_to t m) (byte 2 m) ≡ bit_or (zone_mark t (byte 2 m)) 3
  unfolding writes_of
  zone_mark_lem k h =
      left (zone_place (byte 2 m)) k (omega arith)
      ∙ record_mark (zone_place (byte 2 m)) 3 (zone_run m) (zone_mark t (byte 2 m))

  -- its other seven bytes
  pub zone_run_lem : (j : ℕ) → Taken 0x04 t m → byte 2 m < 256 → j < 7
      → get_or (applied_to t m) (zone_place (byte 2 m) + 1 + j) 0 ≡ get_or (zone_run m) j 0
  unfolding writes_of
  zone_run_lem j k h l =
      left (zone_place (byte 2 m) + 1 + j) k (omega arith)
      ∙ record_byte (zone_place (byte 2 m)) 3 (zone_run m) j (get_or t (zone_place (byte 2 m) + 1 + j) 0) l

  -- "faulted from condition 1 bit 0; bypass from bit 3 or 4; .."
  pub zone_short_lem : Taken 0x04 t m → byte 2 m < 256
      → zone_short (applied_to t m) (byte 2 m) ≡ short_from (byte 7 m) (byte 8 m)
  zone_short_lem k h = ap (λ i. get_or (applied_to t m) i 0) (omega arith) ∙ zone_run_lem 6 k h (omega arith)

  -- "all other records" stay
  pub zone_keeps : (i : ℕ) → number_of (byte 1 m) ≡ 0x04 → ((k : ℕ) → k < 8 → i ≡ zone_place (byte 2 m) + k → ⊥)
      → get_or (applied_to t m) i 0 ≡ get_or t i 0
  unfolding writes_of
  zone_keeps i e h = stays i e (record_elsewhere (zone_place (byte 2 m)) 3 (zone_run m) i (λ k l. h k (omega arith)))

  -- "05h sets short flags .. and mark bit 0 of its 16 zones, nothing else of them"
  pub zones_mark : (j : ℕ) → Taken 0x05 t m → j < 16
      → zone_mark (applied_to t m) (byte 2 m + j) ≡ bit_or (zone_mark t (byte 2 m + j)) 1
  unfolding writes_of
  zones_mark j k l =
      let h = passed_offset m (passed m k.good) k.number in
      left (zone_place (byte 2 m + j)) k (omega arith)
      ∙ heard_mark (λ i. zone_place (byte 2 m + i)) 7 (λ i. four_bits i (byte (3 + i / 2) m)) (λ a b e. omega arith)
      (λ a b e. omega arith)
      16 j (zone_mark t (byte 2 m + j)) l

  -- the short flags, four bits each
  pub zones_short : (j : ℕ) → Taken 0x05 t m → j < 16
      → zone_short (applied_to t m) (byte 2 m + j) ≡ four_bits j (byte (3 + j / 2) m)
  unfolding writes_of
  zones_short j k l =
      let h = passed_offset m (passed m k.good) k.number in
      left (zone_place (byte 2 m + j) + 7) k (omega arith)
      ∙ heard_short (λ i. zone_place (byte 2 m + i)) 7 (λ i. four_bits i (byte (3 + i / 2) m)) (λ a b e. omega arith)
      (λ a b e. omega arith)
      16 j (zone_short t (byte 2 m + j)) l

  -- every other place stays
  pub zones_keep : (i : ℕ) → number_of (byte 1 m) ≡ 0x05
      → ((j : ℕ) → j < 16 → (i ≡ zone_place (byte 2 m + j) → ⊥) × (i ≡ zone_place (byte 2 m + j) + 7 → ⊥))
      → get_or (applied_to t m) i 0 ≡ get_or t i 0
  unfolding writes_of
  zones_keep i e h =
      stays i e (every_turn (Elsewhere i) (short_writes m) 16 (λ j l. let p = h j l in (p.0, (p.1, tt))))

  -- so the mask, type and condition bytes of every zone stay
  pub zones_keep_conditions : (zone k : ℕ) → number_of (byte 1 m) ≡ 0x05 → 1 ≤ k → k ≤ 6
      → get_or (applied_to t m) (zone_place zone + k) 0 ≡ get_or t (zone_place zone + k) 0
  zones_keep_conditions zone k e lo hi =
      zones_keep (zone_place zone + k) e (λ j l. ((λ p. omega arith), (λ p. omega arith)))

  -- "06h stores and sets mark bit 1; the short byte stays"
  pub partition_mark : Taken 0x06 t m
      → get_or (applied_to t m) (partition_place (byte 2 m)) 0 ≡ bit_or (get_or t (partition_place (byte 2 m)) 0) 2
  unfolding writes_of
  partition_mark k =
      let h = passed_partition m (passed m k.good) k.number in
      left (partition_place (byte 2 m)) k (omega arith)
      ∙ record_mark (partition_place (byte 2 m)) 2 (take 7 (drop 2 m)) (get_or t (partition_place (byte 2 m)) 0)

  -- its seven bytes
  pub partition_run : (j : ℕ) → Taken 0x06 t m → j < 7
      → get_or (applied_to t m) (partition_place (byte 2 m) + 1 + j) 0 ≡ byte (3 + j) m
  unfolding writes_of
  partition_run j k l =
      let h = passed_partition m (passed m k.good) k.number in
      let n = passed_number m 0x06 (passed m k.good) k.number in
      left (partition_place (byte 2 m) + 1 + j) k (omega arith)
      ∙ record_byte (partition_place (byte 2 m)) 2 (take 7 (drop 2 m)) j (get_or t (partition_place (byte 2 m) + 1 + j) 0)
      (simp (length-take, length-drop) (omega arith))
      ∙ get_or-take 7 (drop 2 m) j 0 l
      ∙ get_or-drop 2 m j 0
      ∙ ap (λ i. get_or m i 0) (omega arith)

  -- every other place stays
  pub partition_keeps : (i : ℕ) → number_of (byte 1 m) ≡ 0x06 → ((k : ℕ) → k < 8 → i ≡ partition_place (byte 2 m) + k → ⊥)
      → get_or (applied_to t m) i 0 ≡ get_or t i 0
  unfolding writes_of
  partition_keeps i e h =
      stays i e
      (record_elsewhere (partition_place (byte 2 m)) 2 (take 7 (drop 2 m)) i
      (λ k l. h k (omega (arith, simp length-take at l))))

  -- so every short byte
  pub partition_keeps_short : (partition : ℕ) → number_of (byte 1 m) ≡ 0x06
      → get_or (applied_to t m) (partition_place partition + 8) 0 ≡ get_or t (partition_place partition + 8) 0
  partition_keeps_short partition e = partition_keeps (partition_place partition + 8) e (λ k l p. omega arith)

  -- "07h sets all eight short bytes and mark bit 0 of each"
  pub partitions_mark : (p : ℕ) → Taken 0x07 t m → p < 8
      → get_or (applied_to t m) (partition_place p) 0 ≡ bit_or (get_or t (partition_place p) 0) 1
  unfolding writes_of
  partitions_mark p k l =
      left (partition_place p) k (omega arith)
      ∙ heard_mark partition_place 8 (λ q. byte (2 + q) m) (λ i j e. omega arith) (λ i j e. omega arith) 8 p
      (get_or t (partition_place p) 0) l

  -- the short bytes
  pub partitions_short : (p : ℕ) → Taken 0x07 t m → p < 8
      → get_or (applied_to t m) (partition_place p + 8) 0 ≡ byte (2 + p) m
  unfolding writes_of
  partitions_short p k l =
      left (partition_place p + 8) k (omega arith)
      ∙ heard_short partition_place 8 (λ q. byte (2 + q) m) (λ i j e. omega arith) (λ i j e. omega arith) 8 p
      (get_or t (partition_place p + 8) 0) l

  -- every other place stays
  pub partitions_keep : (i : ℕ) → number_of (byte 1 m) ≡ 0x07
      → ((p : ℕ) → p < 8 → (i ≡ partition_place p → ⊥) × (i ≡ partition_place p + 8 → ⊥)) → get_or (applied_to t m) i 0
      ≡ get_or t i 0
  unfolding writes_of
  partitions_keep i e h =
      stays i e (every_turn (Elsewhere i) (partition_short m) 8 (λ j l. let p = h j l in (p.0, (p.1, tt))))

  -- "08h stores and sets its mark to 1"
  pub system_mark : Taken 0x08 t m → get_or (applied_to t m) system_place 0 ≡ 1
  unfolding writes_of
  system_mark k =
      left system_place k (omega arith)
      ∙ left_at_run system_place 0 (1 ∷ take 11 (drop 1 m)) (get_or t system_place 0) (omega arith)

  -- its eleven bytes
  pub system_run : (j : ℕ) → Taken 0x08 t m → j < 11 → get_or (applied_to t m) (system_place + suc j) 0 ≡ byte (2 + j) m
  unfolding writes_of
  system_run j k l =
      let n = passed_number m 0x08 (passed m k.good) k.number in
      left (system_place + suc j) k (omega arith)
      ∙ left_at_run system_place (suc j) (1 ∷ take 11 (drop 1 m)) (get_or t (system_place + suc j) 0)
      (simp (length-take, length-drop) (omega arith))
      ∙ get_or-take 11 (drop 1 m) j 0 l
      ∙ get_or-drop 1 m j 0
      ∙ ap (λ i. get_or m i 0) (omega arith)

  -- every place before it stays
  pub system_keeps : (i : ℕ) → number_of (byte 1 m) ≡ 0x08 → i < system_place → get_or (applied_to t m) i 0 ≡ get_or t i 0
  unfolding writes_of
  system_keeps i e h = stays i e (every_run (Elsewhere i) system_place (1 ∷ take 11 (drop 1 m)) (λ k l p. omega arith))

-- ---- marks are never cleared

-- a place that no message stores to
pub record Unstored (i : ℕ) : Type 0 where
  pub zones : (zone k : ℕ) → zone < 256 → k < 7 → i ≡ zone_place zone + 1 + k → ⊥
  pub partitions : (partition k : ℕ) → k < 8 → i ≡ partition_place partition + 1 + k → ⊥
  pub system : i < system_place

-- it is a zone's mark, or a partition's
pub zone_unstored : (zone : ℕ) → zone < 256 → Unstored (zone_place zone)
zone_unstored zone h =
    record { zones = λ z k l r e. omega arith; partitions = λ p k r e. omega arith; system = omega arith }

pub partition_unstored : (partition : ℕ) → partition < 8 → Unstored (partition_place partition)
partition_unstored partition h =
    record { zones = λ z k l r e. omega arith; partitions = λ p k r e. omega arith; system = omega arith }

-- so no message stores there
not_stored : (i : ℕ) (m : List ℕ) (n : ℕ) → Unstored i → byte 2 m < 256 → (n ≡ 0x05 → byte 2 m ≤ 240)
    → Every (NotStored i) (writes_of n m)
not_stored i m n u h o =
    writes_are (Every (NotStored i)) n m
    (λ e. (tt, every_run (NotStored i) (zone_place (byte 2 m) + 1) (zone_run m) (λ k l. u.zones (byte 2 m) k h l)))
    (λ e.
    let f = o e in
    every_turn (NotStored i) (short_writes m) 16
    (λ j l. (tt, ((λ p. u.zones (byte 2 m + j) 6 (omega arith) (omega arith) (omega arith)), tt))))
    (λ e. (
      tt,
      every_run (NotStored i) (partition_place (byte 2 m) + 1) (take 7 (drop 2 m))
          (λ k l. u.partitions (byte 2 m) k (omega (arith, simp length-take at l))),
    ))
    (λ e.
    every_turn (NotStored i) (partition_short m) 8
    (λ p l. (tt, ((λ q. u.partitions p 7 (omega arith) (omega arith)), tt))))
    (λ e. every_run (NotStored i) system_place (1 ∷ take 11 (drop 1 m)) (λ k l p. let s = u.system in omega arith))
    tt

-- a bit that is set in such a mark is never cleared, by any message whose byte 2 is a byte
pub marks_stay : (t m : List ℕ) (i k : ℕ) → Unstored i → byte 2 m < 256
    → bit k (get_or t i 0) ≤ bit k (get_or (applied_to t m) i 0)
marks_stay t m i k u h = go (eqb (apply_refusal t m) 0) refl
  where
    go : (ok : Bool) → eqb (apply_refusal t m) 0 ≡ ok → bit k (get_or t i 0) ≤ bit k (get_or (applied_to t m) i 0)
    go true e =
        let taken = taken_by_lem t m (eqb-true (apply_refusal t m) 0 e) in
        let s = u.system in
        let n = number_of (byte 1 m) in
        rw (left t m i taken (omega arith))
        (left_at_set i k (writes_of n m) (get_or t i 0) (not_stored i m n u h (passed_offset m (passed m taken.good))))
    go false e = rw (refused_leaves t m (eqb-false (apply_refusal t m) 0 e)) (le_refl (bit k (get_or t i 0)))
