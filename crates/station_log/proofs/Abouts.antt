-- Laws of `about`: which records speak of a zone. Assumes nothing.
use Prim.Native.Nat.{ℕ, ◌+◌, ◌-◌, ◌≤◌, ◌<◌}
use native.Mathlib.Omega.{arith}
use mathlib.Core.Path.{◌≡◌, refl, ◌∙◌}
use mathlib.Core.Bool.{Bool, true, false}
use mathlib.Core.List.{List}
use lib.Dec.{eqb, leb}
use borrow.Author.Tests.{ne_eqb, le-leb, lt-leb, leb-true, leb-false}
use Rattle.standard.specs.Words.{byte}
use Rattle.standard.specs.Messages.{number_of, within}
use Rattle.standard.proofs.Messages.{or-false}
use Rattle.station_log.specs.Log.{about}

-- a 04h, of one zone
pub about_zone : (zone : ℕ) (m : List ℕ) → number_of (byte 1 m) ≡ 0x04 → about zone m ≡ eqb (byte 2 m) zone
unfolding about
about_zone zone m e = rw e (or-false (eqb (byte 2 m) zone))

-- a 05h, of the sixteen from its offset on
pub about_sixteen : (zone : ℕ) (m : List ℕ) → number_of (byte 1 m) ≡ 0x05
    → about zone m ≡ within (byte 2 m) zone (byte 2 m + 15)
unfolding about
about_sixteen zone m e = rw e refl

-- where it does not stand before its offset, of those at most 15 beyond it
pub about_zones : (zone : ℕ) (m : List ℕ) → number_of (byte 1 m) ≡ 0x05 → byte 2 m ≤ zone
    → about zone m ≡ leb (zone - byte 2 m) 15
about_zones zone m e h = about_sixteen zone m e ∙ rw (le-leb (byte 2 m) zone h) (go (leb (zone - byte 2 m) 15) refl)
  where
    go : (t : Bool) → leb (zone - byte 2 m) 15 ≡ t → leb zone (byte 2 m + 15) ≡ t
    go true p = let l = leb-true (zone - byte 2 m) 15 p in le-leb zone (byte 2 m + 15) (omega arith)
    go false p = let l = leb-false (zone - byte 2 m) 15 p in lt-leb zone (byte 2 m + 15) (omega arith)

-- and of none before it
pub about_before : (zone : ℕ) (m : List ℕ) → number_of (byte 1 m) ≡ 0x05 → zone < byte 2 m → about zone m ≡ false
about_before zone m e h = about_sixteen zone m e ∙ rw (lt-leb (byte 2 m) zone h) refl

-- no other number speaks of a zone
pub about_other : (zone : ℕ) (m : List ℕ) → (number_of (byte 1 m) ≡ 0x04 → ⊥) → (number_of (byte 1 m) ≡ 0x05 → ⊥)
    → about zone m ≡ false
unfolding about
about_other zone m p q = rw (ne_eqb (number_of (byte 1 m)) 0x04 p, ne_eqb (number_of (byte 1 m)) 0x05 q) refl
