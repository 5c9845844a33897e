-- `table::put_zones` meets its contract: a turn does the writes of two zones more. Assumes nothing.
use Rattle.std.proofs.Common.{◌≡◌, ℕ, ◌+◌, ◌*◌, ◌/◌, ◌%◌, ◌<◌, List, set, get_or, take, drop, bit_or, length-take, ap, ◌∙◌, arith, refl}
use mathlib.Core.List.{flat_map}
use borrow.Author.Tests.{eq-eqb, ne_eqb}
use Rattle.standard.specs.Words.{byte, up_to}
use Rattle.standard.specs.Table.{zone_place, four_bits, short_writes, done_all}
use Rattle.standard.proofs.Table.{heard_more}
use Rattle.table.proofs.Copied.{part_byte}
use Rattle.table.proofs.put_zones.Goals as goal

-- the table after the first n zones
abbrev after : List ℕ → List ℕ → ℕ → List ℕ
after t m n = done_all (flat_map (short_writes m) (up_to n)) t

-- the bytes of the message that are read
abbrev pairs : List ℕ → List ℕ
pairs m = take 8 (drop 2 m)

-- the two halves of one
low : (j : ℕ) (m : List ℕ) → j < 8 → get_or (pairs m) j 0 % 16 ≡ four_bits (2 * j) (byte (3 + 2 * j / 2) m)
low j m h =
    let e : 2 * j % 2 ≡ 0 = omega arith in
    rw (eq-eqb (2 * j % 2) 0 e) (ap (λ (b : ℕ). b % 16) (part_byte 8 2 j (3 + 2 * j / 2) m h (omega arith)))

high : (j : ℕ) (m : List ℕ) → j < 8
    → get_or (pairs m) j 0 / 16 ≡ four_bits (2 * j + 1) (byte (3 + (2 * j + 1) / 2) m)
high j m h =
    let e : (2 * j + 1) % 2 ≡ 0 → ⊥ = λ z. omega arith in
    rw (ne_eqb ((2 * j + 1) % 2) 0 e) (ap (λ (b : ℕ). b / 16) (part_byte 8 2 j (3 + (2 * j + 1) / 2) m h (omega arith)))

-- a record that is heard: its mark, and its short flags
abbrev heard : List ℕ → ℕ → ℕ → ℕ → List ℕ
heard t place short b = set (set t place (bit_or (get_or t place 0) 1)) short b

one : (t m now : List ℕ) (n place b : ℕ) {short : ℕ} → now ≡ after t m n → place ≡ zone_place (byte 2 m + n)
    → short ≡ place + 7
    → b ≡ four_bits n (byte (3 + n / 2) m)
    → heard now place short b ≡ after t m (n + 1)
one t m now n place b e f s g =
    ap (λ (i : ℕ). heard now place i b) s
    ∙ heard_more (λ i. zone_place (byte 2 m + i)) 7 (λ i. four_bits i (byte (3 + i / 2) m)) n t e f g

pub loop-j-init : goal.loop-j-init
unfolding flat_map up_to done_all
loop-j-init c = refl

pub loop-j-preserved : goal.loop-j-preserved
loop-j-preserved c =
    let t = c.args.table.now in
    let m = c.args.message.now in
    let j = c.loop-j.j in
    let place = c.zone_place-place.result in
    let h : j < 8 = omega (arith, length-take {A = ℕ}) in
    let first = one t m c.loop-j.table (2 * j) place _ c.loop-j.invariant (omega arith) refl (low j m h) in
    one t m _ (2 * j + 1) (place + 8) _ first (omega arith) (omega arith) (high j m h)
    ∙ ap (after t m) (omega arith)
