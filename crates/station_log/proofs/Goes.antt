-- WHICH RECORDS GO, in the words of the header: 04h for a later 04h of its zone, 05h where each of its sixteen zones
-- has a later 04h or a later 05h that covers it, 06h for a later one of its partition, 07h and 08h for a later one.
-- Assumes nothing.
use Prim.Native.Nat.{ℕ, ◌+◌, ◌-◌, ◌≤◌, ◌<◌}
use native.Mathlib.Omega.{arith}
use mathlib.Core.Path.{◌≡◌, refl, sym, subst, ◌∙◌}
use mathlib.Core.Bool.{true, false≢true}
use mathlib.Core.List.{List}
use mathlib.Core.Logic.{inl, inr, ⊎_elim}
use borrow.Author.Tests.{eq-eqb, eqb-true, le-leb, leb-true}
use Rattle.standard.specs.Words.{byte}
use Rattle.standard.specs.Messages.{number_of, is_status}
use Rattle.standard.proofs.Messages.{both_true}
use Rattle.standard.proofs.Status.{status_cases}
use Rattle.station_log.specs.Log.{about}
use Rattle.station_log.specs.Room.{all_writes, stored, needless}
use Rattle.station_log.specs.Cells.{cells_most, cells_of}
use Rattle.station_log.proofs.Abouts.{about_zone, about_sixteen, about_other}
use Rattle.station_log.proofs.Celled.{cells_04, cells_05, cells_06, cells_07, cells_08}
use Rattle.station_log.proofs.Covered.{cell_place, Owns, InRun, to_run, Same, Speaks, owns_04, owns_05, owns_06}
use Rattle.station_log.proofs.Covered.{owns_07, owns_08}
use Rattle.station_log.proofs.Covered.{Fine, Some, some_more, cell_some, some_cell, needless_covered, covered_needless}

-- both ways
abbrev pub Exactly : Type 0 → Type 0 → Type 0
Exactly A B = (A → B) × (B → A)

module _ (m : List ℕ) (later : List (List ℕ)) (status : is_status m ≡ true) (small : byte 2 m < 256)
    (fine : Fine later) where
  abbrev Goes : Type 0
  Goes = needless later m ≡ true

  -- where it has one cell of its own, and those are known who own it
  by_one : (P : List ℕ → Type 0) (c : ℕ) → cells_of m ≡ record { first = c; count = 1 } → c < cells_most
      → ((l : List ℕ) → is_status l ≡ true → byte 2 l < 256 → Owns l c → P l)
      → ((l : List ℕ) → is_status l ≡ true → byte 2 l < 256 → P l → Owns l c)
      → Exactly Goes (Some P later)
  by_one P c e among there back = (
    λ h.
        let r : InRun (cells_of m) c = to_run c (sym e) (omega arith, omega arith) in
        some_more later fine there
        (cell_some c among later fine (needless_covered m later status small h c r.0 r.1)),
    λ s. covered_needless m later status small fine
        (λ k lo hi.
        let r = to_run k e (lo, hi) in
        let low = r.0 in
        let high = r.1 in
        let is : c ≡ k = omega arith in
        subst (λ (i : ℕ). stored (cell_place i) (all_writes later) ≡ true) is
        (some_cell c later fine (some_more later fine back s))),
  )

  -- "04h of that zone"
  pub goes_04 : number_of (byte 1 m) ≡ 0x04 → Exactly Goes (Some (Same 0x04 m) later)
  goes_04 e =
      by_one (Same 0x04 m) (byte 2 m) (cells_04 m e) (omega arith) (λ l g b o. owns_04 l g b m small o)
      (λ l g b p. let q = p.1 in inl (to_run (byte 2 m) (sym (cells_04 l p.0)) (omega arith, omega arith)))

  pub goes_06 : number_of (byte 1 m) ≡ 0x06 → byte 2 m ≤ 7 → Exactly Goes (Some (Same 0x06 m) later)
  goes_06 e few =
      by_one (Same 0x06 m) (512 + byte 2 m) (cells_06 m e) (omega arith) (λ l g b o. owns_06 l g b m few o)
      (λ l g b p. let q = p.1 in inl (to_run (512 + byte 2 m) (sym (cells_06 l p.0)) (omega arith, omega arith)))

  pub goes_07 : number_of (byte 1 m) ≡ 0x07 → Exactly Goes (Some (λ l. number_of (byte 1 l) ≡ 0x07) later)
  goes_07 e =
      by_one (λ l. number_of (byte 1 l) ≡ 0x07) 520 (cells_07 m e) (omega arith) owns_07
      (λ l g b p. inl (to_run 520 (sym (cells_07 l p)) (omega arith, omega arith)))

  pub goes_08 : number_of (byte 1 m) ≡ 0x08 → Exactly Goes (Some (λ l. number_of (byte 1 l) ≡ 0x08) later)
  goes_08 e =
      by_one (λ l. number_of (byte 1 l) ≡ 0x08) 521 (cells_08 m e) (omega arith) owns_08
      (λ l g b p. inl (to_run 521 (sym (cells_08 l p)) (omega arith, omega arith)))

  -- "or 05h covering it", each of its sixteen
  pub goes_05 : number_of (byte 1 m) ≡ 0x05 → byte 2 m ≤ 240
      → Exactly Goes ((j : ℕ) → j < 16 → Some (λ l. about (byte 2 m + j) l ≡ true) later)
  goes_05 e off = (
    λ h j l.
        let c = 256 + (byte 2 m + j) in
        let r : InRun (cells_of m) c = to_run c (sym (cells_05 m e)) (omega arith, omega arith) in
        some_more later fine (λ n g b o. speaks_about n (byte 2 m + j) (owns_05 n g b (byte 2 m + j) (omega arith) o))
        (cell_some c (omega arith) later fine (needless_covered m later status small h c r.0 r.1)),
    λ s. covered_needless m later status small fine
        (λ c lo hi.
        let r = to_run c (cells_05 m e) (lo, hi) in
        let low = r.0 in
        let high = r.1 in
        let j = c - 256 - byte 2 m in
        let is : 256 + (byte 2 m + j) ≡ c = omega arith in
        subst (λ (i : ℕ). stored (cell_place i) (all_writes later) ≡ true) is
        (some_cell (256 + (byte 2 m + j)) later fine
        (some_more later fine (λ n g b p. about_owns n (byte 2 m + j) g p) (s j (omega arith))))),
  )
    where
      speaks_about : (n : List ℕ) (z : ℕ) → Speaks z n → about z n ≡ true
      speaks_about n z =
          ⊎_elim (λ q. about_zone z n q.0 ∙ eq-eqb (byte 2 n) z q.1)
          (λ q.
          let hi = q.2 in
          about_sixteen z n q.0 ∙ rw (le-leb (byte 2 n) z q.1, le-leb z (byte 2 n + 15) (omega arith)) refl)

      about_owns : (n : List ℕ) (z : ℕ) → is_status n ≡ true → about z n ≡ true → Owns n (256 + z)
      about_owns n z g p =
          status_cases (Owns n (256 + z)) n g
          (λ d. inr (d, let q = eqb-true (byte 2 n) z (sym (about_zone z n d) ∙ p) in omega arith))
          (λ d k.
          let b = both_true _ _ (sym (about_sixteen z n d) ∙ p) in
          let lo = leb-true (byte 2 n) z b.0 in
          let hi = leb-true z (byte 2 n + 15) b.1 in
          inl (to_run (256 + z) (sym (cells_05 n d)) (omega arith, omega arith)))
          (λ d k. absurd (other (λ x. omega arith) (λ x. omega arith)))
          (λ d. absurd (other (λ x. omega arith) (λ x. omega arith)))
          (λ d. absurd (other (λ x. omega arith) (λ x. omega arith)))
        where
          other : (number_of (byte 1 n) ≡ 0x04 → ⊥) → (number_of (byte 1 n) ≡ 0x05 → ⊥) → ⊥
          other x y = false≢true (sym (about_other z n x y) ∙ p)
