-- Laws of the cells: which are a record's, and what stands in each after `note`. Assumes nothing.
use Prim.Native.Nat.{ℕ, ◌+◌, ◌-◌, ◌≤◌, ◌<◌}
use native.Mathlib.Omega.{arith}
use mathlib.Core.Path.{◌≡◌, refl, sym, ap, subst, ◌∙◌}
use mathlib.Core.Bool.{Bool, true, false, cond}
use mathlib.Core.List.{List, [], ◌∷◌, ◌++◌, append_assoc}
use lib.Dec.{eqb, ltb}
use lib.ListN.{length, get_or, take, drop, set, replicate, length-take, length-drop, length-replicate}
use lib.ListN.{length-append, length-set, get_or-replicate, get_or-append}
use lib.Seq.{drop-drop, drop-cons, sets-eq, length-take-le, get_or-append-add, get_or-take, get_or-set_same}
use lib.Seq.{get_or-set_other}
use borrow.Author.Tests.{ne_eqb, eqb-true, eqb-false, ltb-true, ltb-false}
use borrow.Rule.Slice.PartMut.{put_mid}
use Rattle.standard.specs.Words.{byte, laid, Put}
use Rattle.standard.specs.Messages.{number_of, is_status}
use Rattle.standard.proofs.Put.{put_length}
use Rattle.standard.proofs.Messages.{or-false}
use Rattle.standard.proofs.Status.{status_cases}
use Rattle.station_log.specs.Cells.{Cells, cells_most, cells_of, any_zero, is_new, noted}
use Rattle.station_log.proofs.Moving.{put_there}

-- the cells of each number
module _ (m : List ℕ) where
  pub cells_04 : number_of (byte 1 m) ≡ 0x04 → cells_of m ≡ record { first = byte 2 m; count = 1 }
  unfolding cells_of
  cells_04 e = rw e refl

  pub cells_05 : number_of (byte 1 m) ≡ 0x05 → cells_of m ≡ record { first = 256 + byte 2 m; count = 16 }
  unfolding cells_of
  cells_05 e = rw e refl

  pub cells_06 : number_of (byte 1 m) ≡ 0x06 → cells_of m ≡ record { first = 512 + byte 2 m; count = 1 }
  unfolding cells_of
  cells_06 e = rw e refl

  pub cells_07 : number_of (byte 1 m) ≡ 0x07 → cells_of m ≡ record { first = 520; count = 1 }
  unfolding cells_of
  cells_07 e = rw e refl

  pub cells_08 : number_of (byte 1 m) ≡ 0x08 → cells_of m ≡ record { first = 521; count = 1 }
  unfolding cells_of
  cells_08 e = rw e refl

  -- they are within the cells
  pub cells_within : is_status m ≡ true → byte 2 m < 256 → (cells_of m).first + (cells_of m).count ≤ cells_most
  cells_within h small =
      let Is : Cells → Type 0 = λ c. c.first + c.count ≤ cells_most in
      status_cases (Is (cells_of m)) m h (λ e. subst Is (sym (cells_04 e)) (omega arith))
      (λ e b. subst Is (sym (cells_05 e)) (omega arith))
      (λ e b. subst Is (sym (cells_06 e)) (omega arith))
      (λ e. subst Is (sym (cells_07 e)) (omega arith))
      (λ e. subst Is (sym (cells_08 e)) (omega arith))

-- ---- as `note` leaves them

-- a part that was lent to `fill`, said of the whole
part_filled : (l : List ℕ) (first count : ℕ) {after : List ℕ} → first + count ≤ length l
    → after ≡ replicate (length (take (first + count - first) (drop first l))) 1
    → put_mid first (first + count - first) l after ≡ laid l first (replicate count 1)
part_filled l first count {after} h e =
    ap (put_mid first (first + count - first) l) (e ∙ ap (λ (k : ℕ). replicate k 1) size)
    ∙ ap (λ (k : ℕ). take first l ++ (replicate count 1 ++ drop k (drop first l))) n
    ∙ ap (λ (r : List ℕ). take first l ++ (replicate count 1 ++ r))
    (drop-drop count first l ∙ ap (λ (k : ℕ). drop (first + k) l) (sym (length-replicate count 1)))
    ∙ sym (append_assoc (take first l) (replicate count 1) (drop (first + length (replicate count 1)) l))
  where
    n : first + count - first ≡ count
    n = omega arith

    size : length (take (first + count - first) (drop first l)) ≡ count
    size = simp (length-take, length-drop) (omega arith)

-- what `note` says and leaves
abbrev Noted : List ℕ → List ℕ → Bool → List ℕ → Type 0
Noted cells m new after = (new ≡ is_new cells m) × (after ≡ noted cells m)

module _ (cells m : List ℕ) (own : Cells) (is : cells_of m ≡ own) {new : Bool} {after : List ℕ} where
  -- of a message with these cells of its own, and 04h's short flags
  as_04 : new ≡ any_zero (take own.count (drop own.first cells)) → number_of (byte 1 m) ≡ 0x04
      → after ≡ set (laid cells own.first (replicate own.count 1)) (256 + byte 2 m) 1 → Noted cells m new after
  unfolding is_new noted
  as_04 e n f = (
    e ∙ ap (λ (c : Cells). any_zero (take c.count (drop c.first cells))) (sym is),
    f
        ∙ ap (λ (c : Cells). set (laid cells c.first (replicate c.count 1)) (256 + byte 2 m) 1) (sym is)
        ∙ sym (rw n refl),
  )

  as_other : new ≡ any_zero (take own.count (drop own.first cells)) → (number_of (byte 1 m) ≡ 0x04 → ⊥)
      → after ≡ laid cells own.first (replicate own.count 1) → Noted cells m new after
  unfolding is_new noted
  as_other e n f = (
    e ∙ ap (λ (c : Cells). any_zero (take c.count (drop c.first cells))) (sym is),
    f
        ∙ ap (λ (c : Cells). laid cells c.first (replicate c.count 1)) (sym is)
        ∙ sym (rw (ne_eqb (number_of (byte 1 m)) 0x04 n) refl),
  )

-- one cell, as `mark` leaves it
module _ (cells : List ℕ) (c : ℕ) (among : c < length cells) where
  one_new : eqb (get_or cells c 0) 0 ≡ any_zero (take 1 (drop c cells))
  unfolding any_zero
  one_new =
      sym (ap (λ (l : List ℕ). any_zero (take 1 l)) (drop-cons cells c 0 among) ∙ or-false (eqb (get_or cells c 0) 0))

  one_laid : set cells c 1 ≡ laid cells c (replicate 1 1)
  one_laid = sets-eq (1 ∷ []) cells c (omega arith)

-- 04h, the others of one cell, and 05h
module _ (cells m : List ℕ) {new : Bool} {after : List ℕ} where
  pub marked_04 : number_of (byte 1 m) ≡ 0x04 → byte 2 m < length cells → new ≡ eqb (get_or cells (byte 2 m) 0) 0
      → after ≡ set (set cells (byte 2 m) 1) (256 + byte 2 m) 1 → Noted cells m new after
  marked_04 n among e f =
      as_04 cells m (record { first = byte 2 m; count = 1 }) (cells_04 m n) (e ∙ one_new cells (byte 2 m) among) n
      (f ∙ ap (λ (l : List ℕ). set l (256 + byte 2 m) 1) (one_laid cells (byte 2 m) among))

  pub marked_one : (c : ℕ) → cells_of m ≡ record { first = c; count = 1 } → (number_of (byte 1 m) ≡ 0x04 → ⊥)
      → c < length cells → new ≡ eqb (get_or cells c 0) 0 → after ≡ set cells c 1 → Noted cells m new after
  marked_one c is n among e f =
      as_other cells m (record { first = c; count = 1 }) is (e ∙ one_new cells c among) n (f ∙ one_laid cells c among)

  pub filled_05 : number_of (byte 1 m) ≡ 0x05 → 256 + byte 2 m + 16 ≤ length cells → {part : List ℕ}
      → new ≡ any_zero (take (256 + byte 2 m + 16 - (256 + byte 2 m)) (drop (256 + byte 2 m) cells))
      → part ≡ replicate (length (take (256 + byte 2 m + 16 - (256 + byte 2 m)) (drop (256 + byte 2 m) cells))) 1
      → after ≡ put_mid (256 + byte 2 m) (256 + byte 2 m + 16 - (256 + byte 2 m)) cells part → Noted cells m new after
  filled_05 n fit e p f =
      let k : 256 + byte 2 m + 16 - (256 + byte 2 m) ≡ 16 = omega arith in
      as_other cells m (record { first = 256 + byte 2 m; count = 16 }) (cells_05 m n)
      (e ∙ ap (λ (j : ℕ). any_zero (take j (drop (256 + byte 2 m) cells))) k) (λ z. let w = sym n ∙ z in omega arith)
      (f ∙ part_filled cells (256 + byte 2 m) 16 fit p)

-- ---- cell by cell

-- a part that is laid over a list, and what is beside it
laid_in : (l part : List ℕ) (f c : ℕ) → f ≤ c → c < f + length part → f ≤ length l
    → get_or (laid l f part) c 0 ≡ get_or part (c - f) 0
laid_in l part f c lo hi fit =
    let size = length-take-le f l fit in
    let front : c < length (take f l ++ part) = rw (length-append, size) (omega arith) in
    let at : c ≡ length (take f l) + (c - f) = omega arith in
    get_or-append (take f l ++ part) (drop (f + length part) l) 0 c front
    ∙ ap (λ (k : ℕ). get_or (take f l ++ part) k 0) at
    ∙ get_or-append-add (take f l) part (c - f) 0

laid_before : (l part : List ℕ) (f c : ℕ) → c < f → f ≤ length l → get_or (laid l f part) c 0 ≡ get_or l c 0
laid_before l part f c lo fit =
    let size = length-take-le f l fit in
    let front : c < length (take f l ++ part) = rw (length-append, size) (omega arith) in
    get_or-append (take f l ++ part) (drop (f + length part) l) 0 c front
    ∙ get_or-append (take f l) part 0 c (omega arith)
    ∙ get_or-take f l c 0 lo

module _ (cells m : List ℕ) (fit : (cells_of m).first + (cells_of m).count ≤ length cells) where
  abbrev first : ℕ
  first = (cells_of m).first

  abbrev count : ℕ
  count = (cells_of m).count

  abbrev ones : List ℕ
  ones = replicate count 1

  many : length ones ≡ count
  many = length-replicate count 1

  -- as they are laid, and the short flags' cell
  noted_by : (P : List ℕ → Type 0) → (number_of (byte 1 m) ≡ 0x04 → P (set (laid cells first ones) (256 + byte 2 m) 1))
      → ((number_of (byte 1 m) ≡ 0x04 → ⊥) → P (laid cells first ones)) → P (noted cells m)
  unfolding noted
  noted_by P four other = go (eqb (number_of (byte 1 m)) 0x04) refl
    where
      go : (t : Bool) → eqb (number_of (byte 1 m)) 0x04 ≡ t
          → P (cond t (set (laid cells first ones) (256 + byte 2 m) 1) (laid cells first ones))
      go true e = four (eqb-true (number_of (byte 1 m)) 0x04 e)
      go false e = other (eqb-false (number_of (byte 1 m)) 0x04 e)

  -- they are put there
  all_put : Put cells first ones (laid cells first ones) (first + length ones)
  all_put = let n = many in record { bytes = sym (sets-eq ones cells first (omega arith)); end = refl }

  laid_size : length (laid cells first ones) ≡ length cells
  laid_size = put_length all_put

  pub noted_length : length (noted cells m) ≡ length cells
  noted_length =
      noted_by (λ l. length l ≡ length cells)
      (λ e. length-set (laid cells first ones) (256 + byte 2 m) 1 ∙ laid_size) (λ e. laid_size)

  -- its own are written
  pub noted_own : (c : ℕ) → first ≤ c → c < first + count → get_or (noted cells m) c 0 ≡ 1
  noted_own c lo hi =
      let n = many in
      let one : get_or (laid cells first ones) c 0 ≡ 1 =
      laid_in cells ones first c lo (omega arith) (omega arith)
      ∙ get_or-replicate count (c - first) 1 0 (omega arith) in
      noted_by (λ l. get_or l c 0 ≡ 1) (λ e. go one (eqb c (256 + byte 2 m)) refl) (λ e. one)
    where
      go : get_or (laid cells first ones) c 0 ≡ 1 → (t : Bool) → eqb c (256 + byte 2 m) ≡ t
          → get_or (set (laid cells first ones) (256 + byte 2 m) 1) c 0 ≡ 1
      go one true e =
          let i = eqb-true c (256 + byte 2 m) e in
          let s = laid_size in
          ap (λ (k : ℕ). get_or (set (laid cells first ones) (256 + byte 2 m) 1) k 0) i
          ∙ get_or-set_same (laid cells first ones) (256 + byte 2 m) 1 0 (omega arith)
      go one false e =
          get_or-set_other (laid cells first ones) (256 + byte 2 m) c 1 0 (eqb-false c (256 + byte 2 m) e) ∙ one

  pub noted_short : number_of (byte 1 m) ≡ 0x04 → 256 + byte 2 m < length cells
      → get_or (noted cells m) (256 + byte 2 m) 0 ≡ 1
  unfolding noted
  noted_short e among =
      let s = laid_size in
      rw e (get_or-set_same (laid cells first ones) (256 + byte 2 m) 1 0 (omega arith))

  -- and no other
  pub noted_else : (c : ℕ) → (first ≤ c → c < first + count → ⊥) → (number_of (byte 1 m) ≡ 0x04 → c ≡ 256 + byte 2 m → ⊥)
      → get_or (noted cells m) c 0 ≡ get_or cells c 0
  noted_else c out other =
      let n = many in
      noted_by (λ l. get_or l c 0 ≡ get_or cells c 0)
      (λ e. get_or-set_other (laid cells first ones) (256 + byte 2 m) c 1 0 (λ q. other e q) ∙ go (ltb c first) refl)
      (λ e. go (ltb c first) refl)
    where
      go : (t : Bool) → ltb c first ≡ t → get_or (laid cells first ones) c 0 ≡ get_or cells c 0
      go true e = laid_before cells ones first c (ltb-true c first e) (omega arith)
      go false e =
          let lo = ltb-false c first e in
          let n = many in
          put_there c all_put (behind lo (ltb c (first + count)) refl)
        where
          behind : first ≤ c → (t : Bool) → ltb c (first + count) ≡ t → first + length ones ≤ c
          behind lo true e = absurd (out lo (ltb-true c (first + count) e))
          behind lo false e = let hi = ltb-false c (first + count) e in let n = many in omega arith
