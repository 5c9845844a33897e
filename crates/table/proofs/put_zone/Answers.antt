-- `table::put_zone` meets its contract: bits of its mark are set, and a part of the message and the short flags are
-- stored after it. Assumes nothing.
use Rattle.std.proofs.Common.{◌≡◌, ℕ, ◌+◌, ◌≤◌, List, [], ◌∷◌, length, take, drop, set, sym, ap, ap₂, ◌∙◌, arith}
use lib.Seq.{sets}
use Rattle.standard.specs.Words.{byte}
use Rattle.standard.specs.Table.{short_from, stores_from, done_all}
use Rattle.standard.proofs.Applied.{zone_run}
use Rattle.standard.proofs.Put.{sets_append, listed, part_listed}
use Rattle.standard.proofs.Table.{done_all_run}
use Rattle.table.proofs.Copied.{copied_after}
use Rattle.table.proofs.put_zone.Goals as goal

-- the run of stores is the part of the message, and the short flags after it
run : (m t : List ℕ) (place : ℕ) → 8 ≤ length m
    → set (done_all (stores_from (place + 1) (take 6 (drop 2 m))) t) (place + 7) (short_from (byte 7 m) (byte 8 m))
    ≡ done_all (stores_from (place + 1) (zone_run m)) t
run m t place h =
    let s = short_from (byte 7 m) (byte 8 m) in
    ap₂ (λ (l : List ℕ) (n : ℕ). set l n s)
    (done_all_run (place + 1) (take 6 (drop 2 m)) t ∙ ap (sets t (place + 1)) (part_listed 6 2 m (omega arith)))
    (omega arith)
    ∙ sym (sets_append t (place + 1) (listed 6 2 m) (s ∷ []))
    ∙ sym (done_all_run (place + 1) (zone_run m) t)

pub returns : goal.returns
unfolding done_all
returns c =
    let m = c.args.message.now in
    let t = c.args.table.now in
    let place = c.zone_place-place.result in
    rw (← c.from.ensures, ← c.zone_place-place.ensures)
    (ap₂ (λ (l : List ℕ) (s : ℕ). set l (place + 7) s)
    (copied_after place _ 6 2 m t (omega arith) (omega arith) (omega arith) c.copy_from_slice.ensures.after)
    c.short_from.ensures
    ∙ run m _ place (omega arith))
