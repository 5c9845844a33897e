-- Laws of storing: the messages of 04h to 08h are taken, and no other changes the table. Assumes nothing.
use Prim.Native.Nat.{ℕ, ◌≤◌}
use native.Mathlib.Omega.{arith}
use mathlib.Core.Path.{◌≡◌, refl, sym, ◌∙◌}
use mathlib.Core.Bool.{Bool, true, false, cond, ◌&&◌}
use mathlib.Core.List.{List, [], ◌∷◌, ◌++◌}
use lib.Dec.{eqb}
use lib.ListN.{length}
use borrow.Author.Tests.{eq-eqb, eqb-true, le-leb}
use Rattle.standard.specs.Words.{byte}
use Rattle.standard.specs.Messages.{number_of, check_of, is_status}
use Rattle.standard.specs.Judge.{Handed}
use Rattle.standard.specs.Table.{table_bytes, is_table, apply_refusal, applied_to, table_after}
use Rattle.standard.proofs.Status.{status_is}
use Rattle.standard.proofs.Applied.{Taken, taken_by_lem, refused_leaves, others_keep}

-- one of them and a whole table: it is taken
pub taken : (t m : List ℕ) → length t ≡ table_bytes → is_status m ≡ true → Taken (number_of (byte 1 m)) t m
taken t m w h = record { number = refl; whole = w; good = (status_is m h).0 }

-- and so what is taken of them is one
storing : {n : ℕ} (t m : List ℕ) → Taken n t m → 0x04 ≤ number_of (byte 1 m) → number_of (byte 1 m) ≤ 0x08
    → (is_table t && is_status m) ≡ true
unfolding is_status
storing t m k lo hi =
    rw (
      eq-eqb (length t) table_bytes k.whole,
      eq-eqb (check_of m) 0 k.good,
      le-leb 0x04 (number_of (byte 1 m)) lo,
      le-leb (number_of (byte 1 m)) 0x08 hi,
    )

unlike : ◌≡◌ {A = Bool} true false → ⊥
unlike h = let x : ◌≡◌ {A = ℕ} 0 1 = cc in omega arith

-- else the table stays
pub kept : (t m : List ℕ) → (is_table t && is_status m) ≡ false → applied_to t m ≡ t
kept t m h = go (eqb (apply_refusal t m) 0) refl
  where
    go : (ok : Bool) → eqb (apply_refusal t m) 0 ≡ ok → applied_to t m ≡ t
    go false e = refused_leaves t m (λ z. unlike (sym (eq-eqb (apply_refusal t m) 0 z) ∙ e))
    go true e =
        let k = taken_by_lem t m (eqb-true (apply_refusal t m) 0 e) in
        others_keep t m (λ lo hi. unlike (sym (storing t m k lo hi) ∙ h))

pub other_keeps : (t m : List ℕ) → is_status m ≡ false → applied_to t m ≡ t
other_keeps t m h = kept t m (rw h (never (is_table t)))
  where
    never : (b : Bool) → (b && false) ≡ false
    never true = refl
    never false = refl

-- the table after a list, and after one more
pub after_append : (t : List ℕ) (a b : List Handed) → table_after t (a ++ b) ≡ table_after (table_after t a) b
unfolding table_after
after_append t [] b = refl
after_append t (h ∷ a) b = after_append (cond (eqb h.verdict 0) (applied_to t h.message) t) a b
