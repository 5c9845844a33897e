-- Laws of the refusals in their order: what is answered past each test, and what a call knows that is not refused.
-- Assumes nothing.
use Prim.Native.Nat.{ℕ, ◌+◌, ◌≤◌}
use native.Mathlib.Omega.{arith}
use mathlib.Core.Path.{◌≡◌, refl, sym, ap, subst, ◌∙◌}
use mathlib.Core.Bool.{Bool, true, false, cond, not, ◌||◌, false≢true}
use mathlib.Core.List.{List, [], ◌∷◌}
use lib.Dec.{eqb, ltb, leb→le}
use lib.ListN.{length, take, length-append}
use borrow.Author.Tests.{eq-eqb, ne_eqb, eqb-true, eqb-false, ltb-false, le-ltb, not-true}
use Rattle.standard.specs.Words.{byte, first_of}
use Rattle.standard.specs.Messages.{among, number_of, check_of, message_tests, status_number, is_status}
use Rattle.standard.proofs.Messages.{neither_true, or-true, check_then}
use Rattle.standard.proofs.Refusals.{first_in}
use Rattle.standard.proofs.Status.{status_is}
use Rattle.station_log.specs.Log.{log_most, record_of, sound, beyond, log_tests, log_refusal, keep_tests, keep_refusal}

-- a place that is not beyond
pub record Inside (log : List ℕ) (end : ℕ) : Type 0 where
  pub buffer : end ≤ length log
  pub most : end ≤ log_most

pub inside : (log : List ℕ) (end : ℕ) → beyond log end ≡ false → Inside log end
inside log end h =
    let b = neither_true (ltb (length log) end) (ltb log_most end) h in
    record { buffer = ltb-false (length log) end b.0; most = ltb-false log_most end b.1 }

pub inside_not : (log : List ℕ) (end : ℕ) → Inside log end → beyond log end ≡ false
inside_not log end h = rw (le-ltb (length log) end h.buffer, le-ltb log_most end h.most) refl

-- 65,536 BYTES MAY BE USED, and not one more
pub to_the_byte : (log : List ℕ) → 65536 ≤ length log → (beyond log 65536 ≡ false) × (beyond log 65537 ≡ true)
to_the_byte log h =
    let above : ltb log_most 65537 ≡ true = refl in (
      inside_not log 65536 (record { buffer = h; most = leb→le 65536 log_most tt }),
      ap (λ t. ltb (length log) 65537 || t) above ∙ or-true (ltb (length log) 65537),
    )

-- ---- the log's own

module _ (log : List ℕ) (used : ℕ) where
  pub log_16 : beyond log used ≡ true → log_refusal log used ≡ 16
  unfolding log_refusal
  log_16 h = rw h refl

  pub log_else : beyond log used ≡ false → log_refusal log used ≡ cond (sound (take used log)) 0 17
  unfolding log_refusal
  log_else h = rw h (go (sound (take used log)))
    where
      go : (t : Bool) → ◌≡◌ {A = ℕ} (cond (not t) 17 0) (cond t 0 17)
      go true = refl
      go false = refl

-- a log that is not refused
pub record Asked (log : List ℕ) (used : ℕ) : Type 0 where
  pub fits : Inside log used
  pub sounds : sound (take used log) ≡ true

pub asked : (log : List ℕ) (used : ℕ) → log_refusal log used ≡ 0 → Asked log used
asked log used h = go (beyond log used) refl (sound (take used log)) refl
  where
    go : (a : Bool) → beyond log used ≡ a → (b : Bool) → sound (take used log) ≡ b → Asked log used
    go true p b q = let z = sym h ∙ log_16 log used p in absurd (omega arith)
    go false p false q = let z = sym h ∙ log_else log used p ∙ ap (λ t. cond t 0 17) q in absurd (omega arith)
    go false p true q = record { fits = inside log used p; sounds = q }

pub asked_none : (log : List ℕ) (used : ℕ) → Asked log used → log_refusal log used ≡ 0
asked_none log used a = log_else log used (inside_not log used a.fits) ∙ rw a.sounds refl

-- whatever is handed in, the log's own are these
pub log_numbers : (log : List ℕ) (used : ℕ) → among (log_refusal log used) (0 ∷ 16 ∷ 17 ∷ []) ≡ true
unfolding log_refusal
log_numbers log used = first_in (λ n. among n (0 ∷ 16 ∷ 17 ∷ [])) (log_tests log used) refl

-- ---- those of `keep`

-- the log's own are first, and then the message's, 18 and 9
module _ (log : List ℕ) (used : ℕ) (m : List ℕ) where
  abbrev after : ℕ
  after =
      cond (eqb (check_of m) 0)
      (first_of
      ((not (status_number (number_of (byte 1 m))), 18) ∷ (beyond log (used + length (record_of m)), 9) ∷ []))
      (check_of m)

  ordered : keep_refusal log used m ≡ cond (beyond log used) 16 (cond (not (sound (take used log))) 17 after)
  unfolding keep_refusal
  ordered =
      ap (λ (n : ℕ). cond (beyond log used) 16 (cond (not (sound (take used log))) 17 n))
      (check_then m
      ((not (status_number (number_of (byte 1 m))), 18) ∷ (beyond log (used + length (record_of m)), 9) ∷ []))

  pub keep_16 : beyond log used ≡ true → keep_refusal log used m ≡ 16
  keep_16 h = ordered ∙ rw h refl

  module _ (p : beyond log used ≡ false) where
    pub keep_17 : sound (take used log) ≡ false → keep_refusal log used m ≡ 17
    keep_17 h = ordered ∙ rw (p, h) refl

    module _ (q : sound (take used log) ≡ true) where
      pub keep_own : (check_of m ≡ 0 → ⊥) → keep_refusal log used m ≡ check_of m
      keep_own h = ordered ∙ rw (p, q, ne_eqb (check_of m) 0 h) refl

      module _ (r : check_of m ≡ 0) where
        number : status_number (number_of (byte 1 m)) ≡ is_status m
        unfolding is_status
        number = rw (eq-eqb (check_of m) 0 r) refl

        pub keep_18 : is_status m ≡ false → keep_refusal log used m ≡ 18
        keep_18 h = ordered ∙ rw (p, q, eq-eqb (check_of m) 0 r, number ∙ h) refl

        pub keep_else : is_status m ≡ true
            → keep_refusal log used m ≡ cond (beyond log (used + length (record_of m))) 9 0
        keep_else h = ordered ∙ rw (p, q, eq-eqb (check_of m) 0 r, number ∙ h) refl

        -- as the code counts the record's bytes
        by_end : is_status m ≡ true → keep_refusal log used m ≡ cond (beyond log (used + length m + 1)) 9 0
        by_end h =
            let end : used + length (record_of m) ≡ used + length m + 1 = rw length-append (omega arith) in
            keep_else h ∙ ap (λ (k : ℕ). cond (beyond log k) 9 0) end

        pub keep_9 : is_status m ≡ true → beyond log (used + length m + 1) ≡ true → keep_refusal log used m ≡ 9
        keep_9 h e = by_end h ∙ ap (λ (t : Bool). cond t 9 0) e

        pub keep_0 : is_status m ≡ true → beyond log (used + length m + 1) ≡ false → keep_refusal log used m ≡ 0
        keep_0 h e = by_end h ∙ ap (λ (t : Bool). cond t 9 0) e

-- the numbers of `keep`: of a log that is not refused, and of any
abbrev pub of_the_kept : ℕ → Bool
of_the_kept n = among n (0 ∷ 4 ∷ 6 ∷ 7 ∷ 8 ∷ 18 ∷ 9 ∷ [])

abbrev pub of_any : ℕ → Bool
of_any n = among n (16 ∷ 17 ∷ []) || of_the_kept n

pub own_numbers : (m : List ℕ) → of_the_kept (check_of m) ≡ true
unfolding check_of
own_numbers m = first_in of_the_kept (message_tests m) refl

-- whatever is handed in, `keep` answers one of them
pub all_numbers : (log : List ℕ) (used : ℕ) (m : List ℕ) → of_any (keep_refusal log used m) ≡ true
unfolding keep_refusal
all_numbers log used m = first_in of_any (keep_tests log used m) refl

-- a message of a log, to keep in one that is not refused: there is room for it, or there is none
pub keep_status : (log : List ℕ) (used : ℕ) (m : List ℕ) → Asked log used → is_status m ≡ true
    → keep_refusal log used m ≡ cond (beyond log (used + length (record_of m))) 9 0
keep_status log used m a h =
    keep_else log used m (inside_not log used a.fits) a.sounds (status_is m h).0 h

-- it is one where `keep` takes it or wants room for it
pub record Past (log : List ℕ) (used : ℕ) (m : List ℕ) : Type 0 where
  pub log_asked : Asked log used
  pub kept : is_status m ≡ true

pub past : (log : List ℕ) (used : ℕ) (m : List ℕ) → among (keep_refusal log used m) (0 ∷ 9 ∷ []) ≡ true → Past log used m
unfolding check_of
past log used m h = go (beyond log used) refl (sound (take used log)) refl (eqb (check_of m) 0) refl (is_status m) refl
  where
    Is : ℕ → Type 0
    Is n = among n (0 ∷ 9 ∷ []) ≡ true

    not_nine : eqb (check_of m) 9 ≡ false
    not_nine = not-true (eqb (check_of m) 9) (first_in (λ n. not (eqb n 9)) (message_tests m) refl)

    go : (a : Bool) → beyond log used ≡ a → (b : Bool) → sound (take used log) ≡ b → (c : Bool) → eqb (check_of m) 0 ≡ c
        → (d : Bool) → is_status m ≡ d → Past log used m
    go true p b q c r d s = absurd (false≢true (subst Is (keep_16 log used m p) h))
    go false p false q c r d s = absurd (false≢true (subst Is (keep_17 log used m p q) h))
    go false p true q false r d s =
        let own = subst Is (keep_own log used m p q (eqb-false (check_of m) 0 r)) h in
        absurd (false≢true (rw (r, not_nine) at own))
    go false p true q true r false s =
        absurd (false≢true (subst Is (keep_18 log used m p q (eqb-true (check_of m) 0 r) s) h))
    go false p true q true r true s =
        record { log_asked = record { fits = inside log used p; sounds = q }; kept = s }

-- a message that is kept
pub record Taken (log : List ℕ) (used : ℕ) (m : List ℕ) : Type 0 where
  pub log_asked : Asked log used
  pub kept : is_status m ≡ true
  pub room : Inside log (used + length (record_of m))

pub taken : (log : List ℕ) (used : ℕ) (m : List ℕ) → keep_refusal log used m ≡ 0 → Taken log used m
taken log used m h = go (past log used m (rw h refl)) (beyond log (used + length (record_of m))) refl
  where
    go : Past log used m → (t : Bool) → beyond log (used + length (record_of m)) ≡ t → Taken log used m
    go p true e =
        let z = sym h ∙ keep_status log used m p.log_asked p.kept ∙ ap (λ u. cond u 9 0) e in
        absurd (omega arith)
    go p false e =
        record { log_asked = p.log_asked; kept = p.kept; room = inside log (used + length (record_of m)) e }
