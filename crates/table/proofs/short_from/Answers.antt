-- `table::short_from` meets its contract: that a mask says what the definition says of single bits is computed for all
-- 256 bytes. Assumes nothing.
use Rattle.std.proofs.Common.{◌≡◌, ℕ, ◌*◌, ◌<◌, max, cond, eqb, bit_and, ◌∙◌, arith}
use native.Mathlib.Nat.{div-one}
use lib.Dec.{eqb→eq}
use Rattle.standard.specs.Words.{bit}
use Rattle.standard.proofs.Tables.{below}
use Rattle.table.proofs.short_from.Goals as goal

bypass : (b : ℕ) → b < 256 → cond (eqb (bit_and b 0x18) 0) 0 2 ≡ 2 * max (bit 3 b) (bit 4 b)
bypass b h = eqb→eq _ _ (below (λ b. eqb (cond (eqb (bit_and b 0x18) 0) 0 2) (2 * max (bit 3 b) (bit 4 b))) 256 tt b h)

trouble : (b : ℕ) → b < 256
    → cond (eqb (bit_and b 0x66) 0) 0 4 ≡ 4 * max (max (bit 1 b) (bit 2 b)) (max (bit 5 b) (bit 6 b))
trouble b h =
    eqb→eq _ _
    (below
    (λ b. eqb (cond (eqb (bit_and b 0x66) 0) 0 4) (4 * max (max (bit 1 b) (bit 2 b)) (max (bit 5 b) (bit 6 b))))
    256 tt b h)

pub returns : goal.returns
returns c =
    let a = c.args.c1 in
    rw (c.flag.ensures ∙ bypass a (omega arith), c.flag-2.ensures ∙ trouble a (omega arith), div-one a, div-one c.args.c2)
