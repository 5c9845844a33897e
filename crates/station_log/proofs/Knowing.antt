-- Laws of the cells while a log is walked back: they know what later records write, A RECORD IS NEW TO THEM EXACTLY IF
-- IT IS NOT NEEDLESS, and each that is new leaves fewer of them unwritten. Assumes nothing.
use Prim.Native.Nat.{ℕ, zero, suc, ◌+◌, ◌-◌, ◌≤◌, ◌<◌}
use native.Mathlib.Nat.{le_refl}
use native.Mathlib.Numerals.{add-one}
use native.Mathlib.Omega.{arith}
use mathlib.Core.Path.{◌≡◌, refl, sym, ap, subst, ◌∙◌}
use mathlib.Core.Bool.{Bool, true, false, cond, not, ◌&&◌, ◌||◌, false≢true}
use mathlib.Core.List.{List, [], ◌∷◌, map}
use mathlib.Core.Logic.{⊎_elim, inl, inr}
use lib.Dec.{eqb, ltb, leb}
use lib.ListN.{length, get_or, take, drop, replicate, length-take, length-drop, length-replicate, get_or-replicate}
use lib.Seq.{get_or-take, get_or-drop}
use borrow.Author.Tests.{eq-eqb, eqb-true, eqb-false, le-leb, leb-true, lt-ltb, ltb-true}
use Rattle.standard.specs.Words.{byte, up_to, total}
use Rattle.standard.specs.Messages.{number_of, is_status}
use Rattle.standard.proofs.Words.{total_le, total_mono, total_more, length_up_to}
use Rattle.standard.proofs.Messages.{both_true, neither_true}
use Rattle.station_log.specs.Room.{message_writes, all_writes, stored, needless}
use Rattle.station_log.specs.Cells.{cells_most, cells_of, any_zero, is_new, noted}
use Rattle.station_log.proofs.Rewritten.{stored_append}
use Rattle.station_log.proofs.Celled.{cells_within, noted_length, noted_own, noted_short, noted_else}
use Rattle.station_log.proofs.Covered.{cell_place, Owns, cell_told, cell_stored, Fine, needless_covered, covered_needless}

-- ---- what the cells know

pub record Knows (cells : List ℕ) (later : List (List ℕ)) : Type 0 where
  pub size : length cells ≡ cells_most
  pub fine : Fine later
  pub each : (c : ℕ) → c < cells_most → get_or cells c 0 ≡ cond (stored (cell_place c) (all_writes later)) 1 0

pub knows_none : Knows (replicate cells_most 0) []
unfolding all_writes stored
knows_none = record {
  size = length-replicate {A = ℕ} cells_most 0;
  fine = tt;
  each = λ c h. get_or-replicate cells_most c 0 0 h;
}

-- ---- cells that are not written yet

-- one of some cells is not written yet, or all are
any_zero_lem : (l : List ℕ) → any_zero l ≡ true → (i : ℕ) × (i < length l) × (get_or l i 0 ≡ 0)
unfolding any_zero
any_zero_lem [] h = absurd (false≢true h)
any_zero_lem (c ∷ l) h = go (eqb c 0) refl h (any_zero_lem l)
  where
    go : (t : Bool) → eqb c 0 ≡ t → (t || any_zero l) ≡ true
        → (any_zero l ≡ true → (i : ℕ) × (i < length l) × (get_or l i 0 ≡ 0))
        → (i : ℕ) × (i < length (c ∷ l)) × (get_or (c ∷ l) i 0 ≡ 0)
    go true e h more = (0, omega arith, eqb-true c 0 e)
    go false e h more = let w = more h in (suc w.0, omega (arith, w.1), w.2)

no_zero : (l : List ℕ) → any_zero l ≡ false → (i : ℕ) → i < length l → get_or l i 0 ≡ 0 → ⊥
unfolding any_zero
no_zero [] h i l z = absurd (omega arith)
no_zero (c ∷ l) h zero b z = eqb-false c 0 (neither_true (eqb c 0) (any_zero l) h).0 z
no_zero (c ∷ l) h (suc i) b z = no_zero l (neither_true (eqb c 0) (any_zero l) h).1 i (omega arith) z

-- how many of a range of cells are not
abbrev pub zeros : ℕ → ℕ → List ℕ → ℕ
zeros low many cells = total (map (λ i. cond (eqb (get_or cells (low + i) 0) 0) 1 0) (up_to many))

-- no more than there are
pub zeros_most : (low many : ℕ) (cells : List ℕ) → zeros low many cells ≤ many
zeros_most low many cells =
    let n = length_up_to many in
    let s =
    total_le (λ i. cond (eqb (get_or cells (low + i) 0) 0) 1 0) 1 (λ i. few (eqb (get_or cells (low + i) 0) 0))
    (up_to many) in
    omega arith
  where
    few : (t : Bool) → cond t 1 0 ≤ 1
    few true = le_refl 1
    few false = omega arith

-- one term less, and none more
total_less : (f g : ℕ → ℕ) → ((x : ℕ) → f x ≤ g x) → (n i : ℕ) → i < n → f i < g i
    → total (map f (up_to n)) < total (map g (up_to n))
total_less f g h zero i l d = absurd (omega arith)
total_less f g h (suc n) i l d =
    let a = ap (λ (k : ℕ). total (map f (up_to k))) (sym (add-one n)) ∙ total_more f n in
    let b = ap (λ (k : ℕ). total (map g (up_to k))) (sym (add-one n)) ∙ total_more g n in
    go (eqb i n) refl a b (λ k. total_less f g h n i k d)
  where
    go : (t : Bool) → eqb i n ≡ t → total (map f (up_to (suc n))) ≡ total (map f (up_to n)) + f n
        → total (map g (up_to (suc n))) ≡ total (map g (up_to n)) + g n
        → (i < n → total (map f (up_to n)) < total (map g (up_to n)))
        → total (map f (up_to (suc n))) < total (map g (up_to (suc n)))
    go true e a b more =
        let q = eqb-true i n e in
        let s : f n < g n = subst (λ (j : ℕ). f j < g j) q d in
        let r = total_mono f g h (up_to n) in
        omega arith
    go false e a b more =
        let q = eqb-false i n e in
        let s = more (omega arith) in
        let r = h n in
        omega arith

-- ---- a record

module _ (cells m : List ℕ) (later : List (List ℕ)) (k : Knows cells later) (status : is_status m ≡ true)
    (small : byte 2 m < 256) where
  fit : (cells_of m).first + (cells_of m).count ≤ length cells
  fit = rw k.size (cells_within m status small)

  -- a cell that the record owns is written, and every other stays
  owned : (c : ℕ) → Owns m c → get_or (noted cells m) c 0 ≡ 1
  owned c =
      ⊎_elim (λ o. noted_own cells m fit c o.0 o.1)
      (λ o.
      let n = k.size in
      ap (λ (i : ℕ). get_or (noted cells m) i 0) o.1 ∙ noted_short cells m fit o.0 (omega arith))

  other : (c : ℕ) → (Owns m c → ⊥) → get_or (noted cells m) c 0 ≡ get_or cells c 0
  other c out = noted_else cells m fit c (λ lo hi. out (inl (lo, hi))) (λ e q. out (inr (e, q)))

  -- THEY KNOW WHAT IT WRITES TOO
  pub knows_more : Knows (noted cells m) (m ∷ later)
  unfolding all_writes
  knows_more = record {
    size = noted_length cells m fit ∙ k.size;
    fine = (status, small, k.fine);
    each = λ c h. go c h (stored (cell_place c) (message_writes m)) refl
        ∙ ap (λ t. cond t 1 0) (sym (stored_append (cell_place c) (message_writes m) (all_writes later)));
  }
    where
      go : (c : ℕ) → c < cells_most → (t : Bool) → stored (cell_place c) (message_writes m) ≡ t
          → get_or (noted cells m) c 0
          ≡ cond (stored (cell_place c) (message_writes m) || stored (cell_place c) (all_writes later)) 1 0
      go c h true e = owned c (cell_told m status small c h e) ∙ rw e refl
      go c h false e =
          other c (λ o. false≢true (sym e ∙ cell_stored m status small c o)) ∙ k.each c h ∙ rw e refl

  -- ---- new, or needless

  -- the cells of its own, one by one
  abbrev own : List ℕ
  own = take (cells_of m).count (drop (cells_of m).first cells)

  own_many : length own ≡ (cells_of m).count
  own_many = let f = fit in simp (length-take, length-drop) (omega arith)

  own_at : (i : ℕ) → i < (cells_of m).count → get_or own i 0 ≡ get_or cells ((cells_of m).first + i) 0
  own_at i h =
      get_or-take (cells_of m).count (drop (cells_of m).first cells) i 0 h ∙ get_or-drop (cells_of m).first cells i 0

  abbrev at : ℕ → ℕ
  at i = (cells_of m).first + i

  among : (i : ℕ) → i < (cells_of m).count → at i < cells_most
  among i h = let w = cells_within m status small in omega arith

  -- one of its own that is not written yet
  pub new_cell : is_new cells m ≡ true → (i : ℕ) × (i < (cells_of m).count) × (get_or cells (at i) 0 ≡ 0)
  unfolding is_new
  new_cell h =
      let w = any_zero_lem own h in
      let n = own_many in
      let l : w.0 < (cells_of m).count = omega (arith, w.1) in
      (w.0, l, sym (own_at w.0 l) ∙ w.2)

  -- A RECORD IS NEW EXACTLY IF IT IS NOT NEEDLESS
  pub new_needless : is_new cells m ≡ not (needless later m)
  unfolding is_new
  new_needless = go (is_new cells m) refl (needless later m) refl
    where
      written : (c : ℕ) → c < cells_most → (get_or cells c 0 ≡ 0 → ⊥)
          → (t : Bool) → stored (cell_place c) (all_writes later) ≡ t → t ≡ true
      written c h z true e = refl
      written c h z false e = absurd (z (k.each c h ∙ ap (λ t. cond t 1 0) e))

      all : is_new cells m ≡ false → (c : ℕ) → (cells_of m).first ≤ c → c < (cells_of m).first + (cells_of m).count
          → stored (cell_place c) (all_writes later) ≡ true
      all e c lo hi =
          let i = c - (cells_of m).first in
          let is : at i ≡ c = omega arith in
          let l : i < (cells_of m).count = omega arith in
          let n = own_many in
          let w = cells_within m status small in
          written c (omega arith)
          (λ z.
          no_zero own e i (omega arith)
          (own_at i l ∙ ap (λ (j : ℕ). get_or cells j 0) is ∙ z))
          (stored (cell_place c) (all_writes later)) refl

      go : (a : Bool) → is_new cells m ≡ a → (b : Bool) → needless later m ≡ b → a ≡ not b
      go true e false f = refl
      go false e true f = refl
      go true e true f =
          let w = new_cell e in
          let c = needless_covered m later status small f (at w.0) (omega arith) (omega (arith, w.1)) in
          let z : ◌≡◌ {A = ℕ} 0 1 = sym w.2 ∙ k.each (at w.0) (among w.0 w.1) ∙ ap (λ t. cond t 1 0) c in
          absurd (omega arith)
      go false e false f =
          absurd (false≢true (sym f ∙ covered_needless m later status small k.fine (all e)))

  -- ---- fewer of them

  abbrev unwritten : ℕ → List ℕ → ℕ
  unwritten c l = cond (eqb (get_or l c 0) 0) 1 0

  -- none that was written is not
  no_more : (c : ℕ) → unwritten c (noted cells m) ≤ unwritten c cells
  no_more c = go (leb (cells_of m).first c && ltb c ((cells_of m).first + (cells_of m).count)) refl
      (eqb (number_of (byte 1 m)) 0x04 && eqb c (256 + byte 2 m)) refl
    where
      one : Owns m c → unwritten c (noted cells m) ≤ unwritten c cells
      one o = rw (owned c o) (omega arith)

      go : (a : Bool) → (leb (cells_of m).first c && ltb c ((cells_of m).first + (cells_of m).count)) ≡ a
          → (b : Bool) → (eqb (number_of (byte 1 m)) 0x04 && eqb c (256 + byte 2 m)) ≡ b
          → unwritten c (noted cells m) ≤ unwritten c cells
      go true p b q =
          let r = both_true _ _ p in
          one (inl (leb-true (cells_of m).first c r.0, ltb-true c ((cells_of m).first + (cells_of m).count) r.1))
      go false p true q =
          let r = both_true _ _ q in
          one (inr (eqb-true (number_of (byte 1 m)) 0x04 r.0, eqb-true c (256 + byte 2 m) r.1))
      go false p false q =
          rw (other c
          (⊎_elim
          (λ o. false≢true (sym p
          ∙ rw (le-leb (cells_of m).first c o.0, lt-ltb c ((cells_of m).first + (cells_of m).count) o.1) refl))
          (λ o. false≢true (sym q
          ∙ rw (eq-eqb (number_of (byte 1 m)) 0x04 o.0, eq-eqb c (256 + byte 2 m) o.1) refl))))
          (le_refl (unwritten c cells))

  pub zeros_same : (low many : ℕ) → zeros low many (noted cells m) ≤ zeros low many cells
  zeros_same low many =
      total_mono (λ i. unwritten (low + i) (noted cells m)) (λ i. unwritten (low + i) cells) (λ i. no_more (low + i))
      (up_to many)

  -- AND A NEW RECORD LEAVES FEWER, in every range in which its own cells are
  pub zeros_fewer : (low many : ℕ) → low ≤ (cells_of m).first → (cells_of m).first + (cells_of m).count ≤ low + many
      → is_new cells m ≡ true → zeros low many (noted cells m) < zeros low many cells
  zeros_fewer low many lo hi new =
      let w = new_cell new in
      let c = (cells_of m).first + w.0 in
      let l = w.1 in
      let i = c - low in
      let is : low + i ≡ c = omega arith in
      let was : unwritten c cells ≡ 1 = rw w.2 refl in
      let now : unwritten c (noted cells m) ≡ 0 =
      rw (owned c (inl (omega arith, omega arith))) refl in
      total_less (λ i. unwritten (low + i) (noted cells m)) (λ i. unwritten (low + i) cells) (λ i. no_more (low + i))
      many i (omega arith)
      (subst (λ (j : ℕ). unwritten j (noted cells m) < unwritten j cells) (sym is) (rw (was, now) (omega arith)))
