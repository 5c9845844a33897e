-- A RECORD IS NEEDLESS EXACTLY IF EACH OF ITS OWN CELLS IS WRITTEN LATER. A cell stands for one place of the table: who
-- stores there writes all that the cell stands for. Assumes nothing.
use Prim.Native.Nat.{ℕ, zero, suc, ◌+◌, ◌-◌, ◌≤◌, ◌<◌}
use native.Mathlib.Omega.{arith}
use mathlib.Core.Path.{◌≡◌, refl, sym, ap, subst, ◌∙◌}
use mathlib.Core.Bool.{Bool, true, false, cond, ◌||◌, false≢true}
use mathlib.Core.List.{List, [], ◌∷◌, ◌++◌, flat_map, append-nil}
use mathlib.Core.Logic.{◌⊎◌, inl, inr, ⊎_elim}
use lib.Bits.{bit_or, or_self}
use lib.Dec.{eqb, ltb}
use lib.ListN.{length, take, drop, length-take, length-drop}
use borrow.Author.Tests.{eq-eqb, eqb-true, lt-ltb, le-ltb, ltb-true, ltb-false}
use Rattle.standard.specs.Words.{byte, up_to}
use Rattle.standard.specs.Messages.{known, length_in, number_of, is_status}
use Rattle.standard.specs.Table.{zone_place, partition_place, system_place, Write, stores, marks, stores_from, zone_writes}
use Rattle.standard.specs.Table.{short_writes, partition_writes, partition_short, system_writes, writes_of}
use Rattle.standard.proofs.Words.{flat_map_append}
use Rattle.standard.proofs.Messages.{or-false, passed, passed_number}
use Rattle.standard.proofs.Table.{or_assoc, Every, every_run, every_turn}
use Rattle.standard.proofs.Status.{status_cases, status_is, status_length_lem}
use Rattle.standard.proofs.Applied.{zone_run}
use Rattle.station_log.specs.Room.{message_writes, all_writes, stored, marked, again, all_again, needless}
use Rattle.station_log.specs.Cells.{Cells, cells_most, cells_of}
use Rattle.station_log.proofs.Rewritten.{again_alike, stored_append, again_left, again_right, turn_again, stored_run}
use Rattle.station_log.proofs.Celled.{cells_04, cells_05, cells_06, cells_07, cells_08}

-- ---- the place that a cell stands for

unfoldable pub cell_place : ℕ → ℕ
cell_place c =
    cond (ltb c 256) (zone_place c + 1)
    (cond (ltb c 512) (zone_place (c - 256) + 7)
    (cond (ltb c 520) (partition_place (c - 512) + 1) (cond (ltb c 521) (partition_place 0 + 8) system_place)))

module _ (z : ℕ) where
  pub own_place : z < 256 → cell_place z ≡ zone_place z + 1
  unfolding cell_place
  own_place h = rw (lt-ltb z 256 h) refl

  pub short_place : z < 256 → cell_place (256 + z) ≡ zone_place z + 7
  unfolding cell_place
  short_place h = rw (le-ltb (256 + z) 256 (omega arith), lt-ltb (256 + z) 512 (omega arith)) (omega arith)

  pub partition_cell : z < 8 → cell_place (512 + z) ≡ partition_place z + 1
  unfolding cell_place
  partition_cell h =
      rw (
        le-ltb (512 + z) 256 (omega arith),
        le-ltb (512 + z) 512 (omega arith),
        lt-ltb (512 + z) 520 (omega arith),
      ) (omega arith)

shorts_cell : cell_place 520 ≡ partition_place 0 + 8
unfolding cell_place
shorts_cell = refl

system_cell : cell_place 521 ≡ system_place
unfolding cell_place
system_cell = refl

-- what holds of every cell and its place
by_cell : (Q : ℕ → ℕ → Type 0) → ((z : ℕ) → z < 256 → Q z (zone_place z + 1))
    → ((z : ℕ) → z < 256 → Q (256 + z) (zone_place z + 7))
    → ((p : ℕ) → p < 8 → Q (512 + p) (partition_place p + 1))
    → Q 520 (partition_place 0 + 8)
    → Q 521 system_place
    → (c : ℕ) → c < cells_most → Q c (cell_place c)
unfolding cell_place
by_cell Q own short partition shorts system c h =
    go (ltb c 256) refl (ltb c 512) refl (ltb c 520) refl (ltb c 521) refl
  where
    at : (k p : ℕ) → k ≡ c → Q k p → Q c p
    at k p e q = subst (λ (n : ℕ). Q n p) e q

    go : (a : Bool) → ltb c 256 ≡ a → (b : Bool) → ltb c 512 ≡ b → (d : Bool) → ltb c 520 ≡ d
        → (e : Bool) → ltb c 521 ≡ e
        → Q c (cond a (zone_place c + 1)
        (cond b (zone_place (c - 256) + 7)
        (cond d (partition_place (c - 512) + 1) (cond e (partition_place 0 + 8) system_place))))
    go true p b q d r e s = own c (ltb-true c 256 p)
    go false p true q d r e s =
        let lo = ltb-false c 256 p in
        let hi = ltb-true c 512 q in
        at (256 + (c - 256)) (zone_place (c - 256) + 7) (omega arith) (short (c - 256) (omega arith))
    go false p false q true r e s =
        let lo = ltb-false c 512 q in
        let hi = ltb-true c 520 r in
        at (512 + (c - 512)) (partition_place (c - 512) + 1) (omega arith) (partition (c - 512) (omega arith))
    go false p false q false r true s =
        let lo = ltb-false c 520 r in
        let hi = ltb-true c 521 s in
        at 520 (partition_place 0 + 8) (omega arith) shorts
    go false p false q false r false s =
        let lo = ltb-false c 521 s in at 521 system_place (omega arith) system

-- ---- what is stored, and by which write

-- a place of a run
run_told : (i q : ℕ) (bs : List ℕ) → stored i (stores_from q bs) ≡ true → (q ≤ i) × (i < q + length bs)
unfolding stored stores_from
run_told i q [] h = absurd (false≢true h)
run_told i q (b ∷ bs) h = go (eqb q i) refl h (run_told i (suc q) bs)
  where
    go : (t : Bool) → eqb q i ≡ t → (t || stored i (stores_from (suc q) bs)) ≡ true
        → (stored i (stores_from (suc q) bs) ≡ true → (suc q ≤ i) × (i < suc q + length bs))
        → (q ≤ i) × (i < q + suc (length bs))
    go true e h more = let s = eqb-true q i e in (omega arith, omega arith)
    go false e h more = let m = more h in let lo = m.0 in let hi = m.1 in (omega arith, omega arith)

-- a turn
turn_told : (f : ℕ → List Write) (n i : ℕ) → stored i (flat_map f (up_to n)) ≡ true
    → (j : ℕ) × (j < n) × (stored i (f j) ≡ true)
unfolding flat_map up_to stored
turn_told f zero i h = absurd (false≢true h)
turn_told f (suc n) i h =
    go (stored i (f n)) refl
    (sym (stored_append i (flat_map f (up_to n)) (f n ++ []) ∙ rw append-nil refl)
    ∙ sym (ap (stored i) (flat_map_append f (up_to n) (n ∷ []))) ∙ h)
    (turn_told f n i)
  where
    go : (t : Bool) → stored i (f n) ≡ t → (stored i (flat_map f (up_to n)) || t) ≡ true
        → (stored i (flat_map f (up_to n)) ≡ true → (j : ℕ) × (j < n) × (stored i (f j) ≡ true))
        → (j : ℕ) × (j < suc n) × (stored i (f j) ≡ true)
    go true e h more = (n, omega arith, e)
    go false e h more =
        let m = more (sym (or-false (stored i (flat_map f (up_to n)))) ∙ h) in (m.0, omega (arith, m.1), m.2)

-- of a mark, and a run or a byte behind it
record_told : (i p bits q : ℕ) (bs : List ℕ) → stored i (marks p bits ∷ stores_from q bs) ≡ true
    → (q ≤ i) × (i < q + length bs)
unfolding stored
record_told i p bits q bs h = run_told i q bs h

pair_told : (i p bits q b : ℕ) → stored i (marks p bits ∷ stores q b ∷ []) ≡ true → q ≡ i
unfolding stored
pair_told i p bits q b h = eqb-true q i (sym (or-false (eqb q i)) ∙ h)

-- ---- whose a cell is

-- one of some cells
abbrev pub InRun : Cells → ℕ → Type 0
InRun own c = (own.first ≤ c) × (c < own.first + own.count)

pub to_run : (c : ℕ) {own other : Cells} → own ≡ other → InRun own c → InRun other c
to_run c e r = subst (λ (o : Cells). InRun o c) e r

module _ (m : List ℕ) where
  abbrev number : ℕ
  number = number_of (byte 1 m)

  -- its own, or that of its zone's short flags
  abbrev pub Owns : ℕ → Type 0
  Owns c = InRun (cells_of m) c ⊎ ((number ≡ 0x04) × (c ≡ 256 + byte 2 m))

  -- which cells those are, its number tells
  owner : (P : Type 0) (c : ℕ) → is_status m ≡ true → Owns c
      → (number ≡ 0x04 → c ≡ byte 2 m → P)
      → (number ≡ 0x04 → c ≡ 256 + byte 2 m → P)
      → (number ≡ 0x05 → byte 2 m ≤ 240 → 256 + byte 2 m ≤ c → c < 256 + byte 2 m + 16 → P)
      → (number ≡ 0x06 → byte 2 m ≤ 7 → c ≡ 512 + byte 2 m → P)
      → (number ≡ 0x07 → c ≡ 520 → P)
      → (number ≡ 0x08 → c ≡ 521 → P)
      → P
  owner P c h owns own short sixteen partition shorts system =
      ⊎_elim
      (λ o.
      status_cases P m h (λ e. let r = to_run c (cells_04 m e) o in own e (only c r.0 r.1))
      (λ e off. let r = to_run c (cells_05 m e) o in sixteen e off r.0 r.1)
      (λ e few. let r = to_run c (cells_06 m e) o in partition e few (only c r.0 r.1))
      (λ e. let r = to_run c (cells_07 m e) o in shorts e (only c r.0 r.1))
      (λ e. let r = to_run c (cells_08 m e) o in system e (only c r.0 r.1)))
      (λ o. short o.0 o.1)
      owns
    where
      only : (c : ℕ) {k : ℕ} → k ≤ c → c < k + 1 → c ≡ k
      only c {k} lo hi = omega arith

  -- what a message of each number writes
  writes_04 : number ≡ 0x04 → message_writes m ≡ zone_writes m
  unfolding writes_of
  writes_04 e = rw e refl

  writes_05 : number ≡ 0x05 → message_writes m ≡ flat_map (short_writes m) (up_to 16)
  unfolding writes_of
  writes_05 e = rw e refl

  writes_06 : number ≡ 0x06 → message_writes m ≡ partition_writes m
  unfolding writes_of
  writes_06 e = rw e refl

  writes_07 : number ≡ 0x07 → message_writes m ≡ flat_map (partition_short m) (up_to 8)
  unfolding writes_of
  writes_07 e = rw e refl

  writes_08 : number ≡ 0x08 → message_writes m ≡ system_writes m
  unfolding writes_of
  writes_08 e = rw e refl

  -- the cells of one number
  run_owned : (c : ℕ) {own : Cells} → cells_of m ≡ own → own.first ≤ c → c < own.first + own.count → Owns c
  run_owned c e lo hi = inl (to_run c (sym e) (lo, hi))

  -- WHO STORES AT A CELL'S PLACE OWNS THE CELL
  pub cell_told : is_status m ≡ true → byte 2 m < 256 → (c : ℕ) → c < cells_most
      → stored (cell_place c) (message_writes m) ≡ true → Owns c
  cell_told h small c among told =
      status_cases (Owns c) m h
      (λ e.
      let r = record_told (cell_place c) _ _ _ _ (to (writes_04 e)) in
      by_cell (λ c p. zone_place (byte 2 m) + 1 ≤ p → p < zone_place (byte 2 m) + 1 + 7 → Owns c)
      (λ z b lo hi. run_owned z (cells_04 m e) (omega arith) (omega arith))
      (λ z b lo hi. inr (e, omega arith)) (λ p b lo hi. absurd (omega arith)) (λ lo hi. absurd (omega arith))
      (λ lo hi. absurd (omega arith)) c among r.0 r.1)
      (λ e off.
      let t = turn_told _ _ (cell_place c) (to (writes_05 e)) in
      let j = t.0 in
      by_cell (λ c p. j < 16 → zone_place (byte 2 m + j) + 7 ≡ p → Owns c)
      (λ z b l q. absurd (omega arith))
      (λ z b l q. run_owned (256 + z) (cells_05 m e) (omega arith) (omega arith))
      (λ p b l q. absurd (omega arith)) (λ l q. absurd (omega arith)) (λ l q. absurd (omega arith)) c among t.1
      (pair_told (cell_place c) _ _ _ _ t.2))
      (λ e few.
      let r = record_told (cell_place c) _ _ _ _ (to (writes_06 e)) in
      let size = length-take 7 (drop 2 m) in
      by_cell
      (λ c p. partition_place (byte 2 m) + 1 ≤ p → p < partition_place (byte 2 m) + 1 + length (take 7 (drop 2 m))
      → Owns c)
      (λ z b lo hi. absurd (omega arith)) (λ z b lo hi. absurd (omega arith))
      (λ p b lo hi. run_owned (512 + p) (cells_06 m e) (omega arith) (omega arith)) (λ lo hi. absurd (omega arith))
      (λ lo hi. absurd (omega arith)) c among r.0 r.1)
      (λ e.
      let t = turn_told _ _ (cell_place c) (to (writes_07 e)) in
      let j = t.0 in
      by_cell (λ c p. j < 8 → partition_place j + 8 ≡ p → Owns c)
      (λ z b l q. absurd (omega arith)) (λ z b l q. absurd (omega arith)) (λ p b l q. absurd (omega arith))
      (λ l q. run_owned 520 (cells_07 m e) (omega arith) (omega arith)) (λ l q. absurd (omega arith)) c among t.1
      (pair_told (cell_place c) _ _ _ _ t.2))
      (λ e.
      let r = run_told (cell_place c) _ _ (to (writes_08 e)) in
      by_cell (λ c p. system_place ≤ p → Owns c)
      (λ z b lo. absurd (omega arith)) (λ z b lo. absurd (omega arith)) (λ p b lo. absurd (omega arith))
      (λ lo. absurd (omega arith)) (λ lo. run_owned 521 (cells_08 m e) (omega arith) (omega arith)) c among r.0)
    where
      to : {ws : List Write} → message_writes m ≡ ws → stored (cell_place c) ws ≡ true
      to e = ap (stored (cell_place c)) (sym e) ∙ told

  -- AND STORES THERE
  pub cell_stored : is_status m ≡ true → byte 2 m < 256 → (c : ℕ) → Owns c
      → stored (cell_place c) (message_writes m) ≡ true
  unfolding stored
  cell_stored h small c owns =
      owner (stored (cell_place c) (message_writes m) ≡ true) c h owns
      (λ e z. at (writes_04 e) (ap cell_place z ∙ own_place (byte 2 m) small)
      (stored_run _ _ (zone_run m) (omega arith) (omega arith)))
      (λ e z. at (writes_04 e) (ap cell_place z ∙ short_place (byte 2 m) small)
      (stored_run _ _ (zone_run m) (omega arith) (omega arith)))
      (λ e off lo hi.
      let j = c - 256 - byte 2 m in
      let z : c ≡ 256 + (byte 2 m + j) = omega arith in
      at (writes_05 e) (ap cell_place z ∙ short_place (byte 2 m + j) (omega arith))
      (turn_again (short_writes m) 16 j (stores _ 0) (omega arith)
      (rw (eq-eqb (zone_place (byte 2 m + j) + 7) _ refl) refl)))
      (λ e few z.
      let size = length-take 7 (drop 2 m) in
      let rest = length-drop 2 m in
      let long = status_length_lem m h in
      at (writes_06 e) (ap cell_place z ∙ partition_cell (byte 2 m) (omega arith))
      (stored_run _ _ (take 7 (drop 2 m)) (omega arith) (omega arith)))
      (λ e z. at (writes_07 e) (ap cell_place z ∙ shorts_cell)
      (turn_again (partition_short m) 8 0 (stores _ 0) (omega arith) refl))
      (λ e z. at (writes_08 e) (ap cell_place z ∙ system_cell)
      (stored_run system_place system_place (1 ∷ take 11 (drop 1 m)) (omega arith) (omega arith)))
    where
      at : {ws : List Write} {i : ℕ} → message_writes m ≡ ws → cell_place c ≡ i → stored i ws ≡ true
          → stored (cell_place c) (message_writes m) ≡ true
      at {ws} {i} e p told = ap (stored (cell_place c)) e ∙ ap (λ (k : ℕ). stored k ws) p ∙ told

-- ---- who owns the cell of another

-- a message of the same zone, or partition
abbrev pub Same : ℕ → List ℕ → List ℕ → Type 0
Same n m l = (number_of (byte 1 l) ≡ n) × (byte 2 l ≡ byte 2 m)

-- a 04h of a zone, or a 05h that covers it
abbrev pub Speaks : ℕ → List ℕ → Type 0
Speaks z l =
    ((number_of (byte 1 l) ≡ 0x04) × (byte 2 l ≡ z))
    ⊎ ((number_of (byte 1 l) ≡ 0x05) × (byte 2 l ≤ z) × (z < byte 2 l + 16))

module _ (l : List ℕ) (good : is_status l ≡ true) (small : byte 2 l < 256) where
  pub owns_04 : (m : List ℕ) → byte 2 m < 256 → Owns l (byte 2 m) → Same 0x04 m l
  owns_04 m h o =
      owner l (Same 0x04 m l) (byte 2 m) good o (λ d q. (d, sym q)) (λ d q. absurd (omega arith))
      (λ d k lo hi. absurd (omega arith)) (λ d k q. absurd (omega arith)) (λ d q. absurd (omega arith))
      (λ d q. absurd (omega arith))

  pub owns_05 : (z : ℕ) → z < 256 → Owns l (256 + z) → Speaks z l
  owns_05 z h o =
      owner l (Speaks z l) (256 + z) good o (λ d q. absurd (omega arith)) (λ d q. inl (d, omega arith))
      (λ d k lo hi. inr (d, omega arith, omega arith)) (λ d k q. absurd (omega arith)) (λ d q. absurd (omega arith))
      (λ d q. absurd (omega arith))

  pub owns_06 : (m : List ℕ) → byte 2 m ≤ 7 → Owns l (512 + byte 2 m) → Same 0x06 m l
  owns_06 m h o =
      owner l (Same 0x06 m l) (512 + byte 2 m) good o (λ d q. absurd (omega arith)) (λ d q. absurd (omega arith))
      (λ d k lo hi. absurd (omega arith)) (λ d k q. (d, omega arith)) (λ d q. absurd (omega arith))
      (λ d q. absurd (omega arith))

  pub owns_07 : Owns l 520 → number_of (byte 1 l) ≡ 0x07
  owns_07 o =
      owner l (number_of (byte 1 l) ≡ 0x07) 520 good o (λ d q. absurd (omega arith)) (λ d q. absurd (omega arith))
      (λ d k lo hi. absurd (omega arith)) (λ d k q. absurd (omega arith)) (λ d q. d) (λ d q. absurd (omega arith))

  pub owns_08 : Owns l 521 → number_of (byte 1 l) ≡ 0x08
  owns_08 o =
      owner l (number_of (byte 1 l) ≡ 0x08) 521 good o (λ d q. absurd (omega arith)) (λ d q. absurd (omega arith))
      (λ d k lo hi. absurd (omega arith)) (λ d k q. absurd (omega arith)) (λ d q. absurd (omega arith)) (λ d q. d)

-- ---- what is done again

-- one by one
every_again : (later ws : List Write) → Every (λ w. again later w ≡ true) ws → all_again later ws ≡ true
unfolding all_again
every_again later [] h = refl
every_again later (w ∷ ws) h = rw (h.0, every_again later ws h.1) refl

-- by more than one list, if by one
every_more : {P Q : Write → Type 0} → ((w : Write) → P w → Q w) → (ws : List Write) → Every P ws → Every Q ws
every_more f [] h = tt
every_more f (w ∷ ws) h = (f w h.0, every_more f ws h.1)

-- bits of a mark, where more are set
mark_again : {p q : ℕ} (bits more : ℕ) (ws : List Write) → q ≡ p → bit_or bits more ≡ more
    → again (marks q more ∷ ws) (marks p bits) ≡ true
unfolding marked
mark_again {p} {q} bits more ws same h =
    rw (eq-eqb q p same)
    (eq-eqb _ _ (sym (or_assoc bits more (marked p ws)) ∙ ap (λ (n : ℕ). bit_or n (marked p ws)) h))

-- a record by one at the same place
record_again : (p bits : ℕ) (cs bs : List ℕ) → length bs ≤ length cs
    → Every (λ w. again (marks p bits ∷ stores_from (p + 1) cs) w ≡ true) (marks p bits ∷ stores_from (p + 1) bs)
unfolding stored
record_again p bits cs bs h = (
  mark_again bits bits (stores_from (p + 1) cs) refl (or_self bits),
  every_run (λ w. again (marks p bits ∷ stores_from (p + 1) cs) w ≡ true) (p + 1) bs
      (λ k l. stored_run (p + 1 + k) (p + 1) cs (omega arith) (omega arith)),
)

-- a zone's mark bit 0 and short flags, by a message that is about it
module _ (z b : ℕ) (n : List ℕ) where
  abbrev short : List Write
  short = marks (zone_place z) 1 ∷ stores (zone_place z + 7) b ∷ []

  short_04 : byte 2 n ≡ z → Every (λ w. again (zone_writes n) w ≡ true) short
  unfolding stored
  short_04 e =
      let at : zone_place (byte 2 n) ≡ zone_place z = ap zone_place e in (
        mark_again 1 3 (stores_from (zone_place (byte 2 n) + 1) (zone_run n)) at refl,
        (stored_run (zone_place z + 7) (zone_place (byte 2 n) + 1) (zone_run n) (omega arith) (omega arith), tt),
      )

  short_05 : byte 2 n ≤ z → z < byte 2 n + 16
      → Every (λ w. again (flat_map (short_writes n) (up_to 16)) w ≡ true) short
  unfolding stored
  short_05 lo hi =
      let j = z - byte 2 n in
      let at : zone_place (byte 2 n + j) ≡ zone_place z = omega arith in (
        turn_again (short_writes n) 16 j (marks (zone_place z) 1) (omega arith) (mark_again 1 1 _ at refl),
        (
          turn_again (short_writes n) 16 j (stores (zone_place z + 7) b) (omega arith)
              (rw (eq-eqb (zone_place (byte 2 n + j) + 7) (zone_place z + 7) (omega arith)) refl),
          tt,
        ),
      )

-- A MESSAGE THAT OWNS A CELL DOES AGAIN what another writes for it
module _ (m n : List ℕ) (status : is_status m ≡ true) (good : is_status n ≡ true) where
  abbrev Does : List Write → Type 0
  Does ws = Every (λ w. again (message_writes n) w ≡ true) ws

  by : (vs : List Write) {ws : List Write} → message_writes n ≡ ws → Every (λ w. again ws w ≡ true) vs → Does vs
  by vs e h = subst (λ ws. Every (λ w. again ws w ≡ true) vs) (sym e) h

  long : (l : List ℕ) (k : ℕ) → is_status l ≡ true → number_of (byte 1 l) ≡ k → length l ≡ length_in known k
  long l k h e = passed_number l k (passed l (status_is l h).0) e

  does_04 : Same 0x04 m n → Does (zone_writes m)
  does_04 same =
      by (zone_writes m) (writes_04 n same.0)
      (subst (λ (p : ℕ). Every (λ w. again (marks p 3 ∷ stores_from (p + 1) (zone_run n)) w ≡ true) (zone_writes m))
      (sym (ap zone_place same.1))
      (record_again (zone_place (byte 2 m)) 3 (zone_run n) (zone_run m) (omega arith)))

  does_05 : (j : ℕ) → Speaks (byte 2 m + j) n → Does (short_writes m j)
  does_05 j =
      ⊎_elim (λ q. by (short_writes m j) (writes_04 n q.0) (short_04 (byte 2 m + j) 0 n q.1))
      (λ q. by (short_writes m j) (writes_05 n q.0) (short_05 (byte 2 m + j) 0 n q.1 q.2))

  does_06 : number_of (byte 1 m) ≡ 0x06 → Same 0x06 m n → Does (partition_writes m)
  does_06 d same =
      let a = long m 0x06 status d in
      let b = long n 0x06 good same.0 in
      let sizes : length (take 7 (drop 2 m)) ≤ length (take 7 (drop 2 n)) =
      simp (length-take, length-drop) (omega arith) in
      by (partition_writes m) (writes_06 n same.0)
      (subst (λ (p : ℕ). Every (λ w. again (marks p 2 ∷ stores_from (p + 1) (take 7 (drop 2 n))) w ≡ true)
      (partition_writes m))
      (sym (ap partition_place same.1))
      (record_again (partition_place (byte 2 m)) 2 (take 7 (drop 2 n)) (take 7 (drop 2 m)) sizes))

  does_07 : number_of (byte 1 n) ≡ 0x07 → Does (flat_map (partition_short m) (up_to 8))
  unfolding stored
  does_07 e =
      by (flat_map (partition_short m) (up_to 8)) (writes_07 n e)
      (every_turn (λ w. again (flat_map (partition_short n) (up_to 8)) w ≡ true) (partition_short m) 8
      (λ j l. (
        turn_again (partition_short n) 8 j (marks (partition_place j) 1) l (mark_again 1 1 _ refl refl),
        (
          turn_again (partition_short n) 8 j (stores (partition_place j + 8) (byte (2 + j) m)) l
              (rw (eq-eqb (partition_place j + 8) (partition_place j + 8) refl) refl),
          tt,
        ),
      )))

  does_08 : number_of (byte 1 m) ≡ 0x08 → number_of (byte 1 n) ≡ 0x08 → Does (system_writes m)
  does_08 d e =
      let a = long m 0x08 status d in
      let b = long n 0x08 good e in
      let sizes : length (1 ∷ take 11 (drop 1 m)) ≤ length (1 ∷ take 11 (drop 1 n)) =
      simp (length-take, length-drop) (omega arith) in
      by (system_writes m) (writes_08 n e)
      (every_run (λ w. again (system_writes n) w ≡ true) system_place (1 ∷ take 11 (drop 1 m))
      (λ k l. stored_run (system_place + k) system_place (1 ∷ take 11 (drop 1 n)) (omega arith) (omega arith)))

-- ---- later messages

-- they are of a log, and their second byte is a byte
abbrev pub Fine : List (List ℕ) → Type 0
Fine [] = Unit {0}
Fine (m ∷ ms) = (is_status m ≡ true) × (byte 2 m < 256) × Fine ms

-- one of them
abbrev pub Some : (List ℕ → Type 0) → List (List ℕ) → Type 0
Some P [] = ⊥
Some P (m ∷ ms) = P m ⊎ Some P ms

pub some_more : {P Q : List ℕ → Type 0} → (ms : List (List ℕ)) → Fine ms
    → ((m : List ℕ) → is_status m ≡ true → byte 2 m < 256 → P m → Q m) → Some P ms → Some Q ms
some_more [] f h s = s
some_more (m ∷ ms) f h s = ⊎_elim (λ p. inl (h m f.0 f.1 p)) (λ r. inr (some_more ms f.2 h r)) s

-- a cell is written where one of them owns it
module _ (c : ℕ) (among : c < cells_most) where
  pub cell_some : (later : List (List ℕ)) → Fine later → stored (cell_place c) (all_writes later) ≡ true
      → Some (λ n. Owns n c) later
  unfolding all_writes stored
  cell_some [] f h = false≢true h
  cell_some (n ∷ later) f h =
      go (stored (cell_place c) (message_writes n)) refl
      (sym (stored_append (cell_place c) (message_writes n) (all_writes later)) ∙ h) (cell_some later f.2)
    where
      go : (t : Bool) → stored (cell_place c) (message_writes n) ≡ t
          → (t || stored (cell_place c) (all_writes later)) ≡ true
          → (stored (cell_place c) (all_writes later) ≡ true → Some (λ n. Owns n c) later)
          → Owns n c ⊎ Some (λ n. Owns n c) later
      go true e h more = inl (cell_told n f.0 f.1 c among e)
      go false e h more = inr (more h)

-- what one of them does again, all do together
some_again : {P : List ℕ → Type 0} (ws : List Write) (later : List (List ℕ)) → Fine later
    → ((n : List ℕ) → is_status n ≡ true → byte 2 n < 256 → P n → Every (λ w. again (message_writes n) w ≡ true) ws)
    → Some P later → Every (λ w. again (all_writes later) w ≡ true) ws
unfolding all_writes
some_again ws [] f does s = absurd s
some_again ws (n ∷ later) f does s =
    ⊎_elim (λ p. every_more (again_left (message_writes n) (all_writes later)) ws (does n f.0 f.1 p))
    (λ r. every_more (again_right (message_writes n) (all_writes later)) ws (some_again ws later f.2 does r)) s

-- and so a cell is written
pub some_cell : (c : ℕ) (later : List (List ℕ)) → Fine later → Some (λ n. Owns n c) later
    → stored (cell_place c) (all_writes later) ≡ true
some_cell c later f s =
    (some_again (stores (cell_place c) 0 ∷ []) later f (λ n g b o. (cell_stored n g b c o, tt)) s).0

module _ (m : List ℕ) (later : List (List ℕ)) (status : is_status m ≡ true) (small : byte 2 m < 256) where
  -- every cell of its own is written later
  abbrev pub Covered : Type 0
  Covered =
      (c : ℕ) → (cells_of m).first ≤ c → c < (cells_of m).first + (cells_of m).count
      → stored (cell_place c) (all_writes later) ≡ true

  pub needless_covered : needless later m ≡ true → Covered
  unfolding needless
  needless_covered h c lo hi =
      sym ((again_alike (message_writes m) (all_writes later) h).bytes (cell_place c))
      ∙ stored_append (cell_place c) (message_writes m) (all_writes later)
      ∙ rw (cell_stored m status small c (inl (lo, hi))) refl

  abbrev Again : List Write → Type 0
  Again ws = Every (λ w. again (all_writes later) w ≡ true) ws

  -- what is written for one cell of its own, whoever owns it later does again
  one_cell : Fine later → Covered → {o : Cells} → cells_of m ≡ o → (c : ℕ) → o.first ≤ c → c < o.first + o.count
      → c < cells_most → (ws : List Write)
      → ((n : List ℕ) (g : is_status n ≡ true) → byte 2 n < 256 → Owns n c → Does m n status g ws)
      → Again ws
  one_cell fine all {o} e c lo hi most ws does =
      let r = to_run c (sym e) (lo, hi) in
      some_again ws later fine does (cell_some c most later fine (all c r.0 r.1))

  pub covered_needless : Fine later → Covered → needless later m ≡ true
  unfolding needless
  covered_needless fine all =
      every_again (all_writes later) (message_writes m)
      (status_cases (Again (message_writes m)) m status
      (λ e.
      subst Again (sym (writes_04 m e))
      (one_cell fine all (cells_04 m e) (byte 2 m) (omega arith) (omega arith) (omega arith) (zone_writes m)
      (λ n g b o. does_04 m n status g (owns_04 n g b m small o))))
      (λ e off.
      subst Again (sym (writes_05 m e))
      (every_turn (λ w. again (all_writes later) w ≡ true) (short_writes m) 16
      (λ j l.
      one_cell fine all (cells_05 m e) (256 + (byte 2 m + j)) (omega arith) (omega arith) (omega arith)
      (short_writes m j)
      (λ n g b o. does_05 m n status g j (owns_05 n g b (byte 2 m + j) (omega arith) o)))))
      (λ e few.
      subst Again (sym (writes_06 m e))
      (one_cell fine all (cells_06 m e) (512 + byte 2 m) (omega arith) (omega arith) (omega arith) (partition_writes m)
      (λ n g b o. does_06 m n status g e (owns_06 n g b m few o))))
      (λ e.
      subst Again (sym (writes_07 m e))
      (one_cell fine all (cells_07 m e) 520 (omega arith) (omega arith) (omega arith)
      (flat_map (partition_short m) (up_to 8)) (λ n g b o. does_07 m n status g (owns_07 n g b o))))
      (λ e.
      subst Again (sym (writes_08 m e))
      (one_cell fine all (cells_08 m e) 521 (omega arith) (omega arith) (omega arith) (system_writes m)
      (λ n g b o. does_08 m n status g e (owns_08 n g b o)))))
