-- Parts of a message: one that is copied into the table after a record's mark, and one whose bytes are read in turn.
-- Assumes nothing.
use Prim.Native.Nat.{ℕ, ◌+◌, ◌-◌, ◌≤◌, ◌<◌}
use native.Mathlib.Omega.{arith}
use mathlib.Core.Path.{◌≡◌, sym, ap, ◌∙◌}
use mathlib.Core.List.{List}
use lib.ListN.{length, get_or, take, drop, set, length-take, length-drop, length-set}
use borrow.Rule.Slice.PartMut.{put_mid}
use Rattle.std.proofs.lemmas.List.{get_or-take, get_or-drop}
use Rattle.standard.specs.Words.{byte}
use Rattle.standard.specs.Table.{stores_from, done_all}
use Rattle.standard.proofs.Put.{copied_to}
use Rattle.standard.proofs.Table.{done_all_run}

-- the n bytes of m from k on, where the table's part has its length in another form
pub copied_after : (place mark n k : ℕ) (m t : List ℕ) {width : ℕ} {after : List ℕ} → k + n ≤ length m
    → place + 1 + n ≤ length t
    → width ≡ n
    → after ≡ take n (drop k m)
    → put_mid (place + 1) width (set t place mark) after
    ≡ done_all (stores_from (place + 1) (take n (drop k m))) (set t place mark)
copied_after place mark n k m t {width} {after} h fits e f =
    let size : length (take n (drop k m)) ≡ n = omega (arith, length-take {A = ℕ}, length-drop {A = ℕ}) in
    let room : place + 1 + length (take n (drop k m)) ≤ length (set t place mark) = simp length-set (omega arith) in
    (copied_to (place + 1) width (take n (drop k m)) (set t place mark) room (e ∙ sym size) f).bytes
    ∙ sym (done_all_run (place + 1) (take n (drop k m)) (set t place mark))

-- byte i of those bytes, which is counted from 1 in the message
pub part_byte : (n k i j : ℕ) (m : List ℕ) → i < n → k + i ≡ j - 1 → get_or (take n (drop k m)) i 0 ≡ byte j m
part_byte n k i j m h e = get_or-take n (drop k m) i 0 h ∙ get_or-drop k m i 0 ∙ ap (λ (p : ℕ). get_or m p 0) e
