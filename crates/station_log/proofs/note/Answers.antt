-- `station_log::note` meets its contract: an arm for each number, the last for 08h. Assumes nothing.
use Rattle.std.proofs.Common.{◌≡◌, ℕ, ◌+◌, ◌≤◌, ◌<◌, refl, ap, true, List, set, arith}
use Rattle.standard.specs.Words.{byte}
use Rattle.standard.specs.Messages.{number_of, is_status}
use Rattle.standard.proofs.Messages.{passed, passed_offset, passed_partition}
use Rattle.standard.proofs.Status.{status_is, status_length_lem}
use Rattle.station_log.proofs.Celled.{cells_06, cells_07, cells_08, marked_04, marked_one, filled_05}
use Rattle.station_log.proofs.note.Goals as goal

-- the checked values of 05h and 06h
offset : (m : List ℕ) → is_status m ≡ true → number_of (byte 1 m) ≡ 0x05 → byte 2 m ≤ 240
offset m s e = passed_offset m (passed m (status_is m s).0) e

partition : (m : List ℕ) → is_status m ≡ true → number_of (byte 1 m) ≡ 0x06 → byte 2 m ≤ 7
partition m s e = passed_partition m (passed m (status_is m s).0) e

pub bounds-message-1 : goal.bounds-message-1
bounds-message-1 c = let n = status_length_lem c.args.message.now c.requires.message_value in omega arith

pub bounds-message-0 : goal.bounds-message-0
bounds-message-0 c = let n = status_length_lem c.args.message.now c.requires.message_value in omega arith

pub slice_bounds-fill-end : goal.slice_bounds-fill-end
slice_bounds-fill-end c =
    let off = offset c.args.message.now c.requires.message_value c.in-5.is in
    let n = c.requires.cells_len in
    omega arith

pub mark-requires : goal.mark-requires
mark-requires c =
    let few = partition c.args.message.now c.requires.message_value c.in-6.is in
    let n = c.requires.cells_len in
    omega arith

pub returns-in-4 : goal.returns-in-4
returns-in-4 c =
    let a = c.args in
    let b : byte 2 a.message.now < 256 = omega (arith, c.type_inv.message 1) in
    let n = c.requires.cells_len in
    let m = marked_04 a.cells.now a.message.now c.in-4.is (omega arith) c.mark-is_new.ensures.value
    (ap (λ (l : List ℕ). set l (256 + byte 2 a.message.now) 1) c.mark-is_new.ensures.cells_after) in
    record { value = m.0; cells_after = m.1 }

pub returns-in-5 : goal.returns-in-5
returns-in-5 c =
    let a = c.args in
    let off = offset a.message.now c.requires.message_value c.in-5.is in
    let n = c.requires.cells_len in
    let m = filled_05 a.cells.now a.message.now c.in-5.is (omega arith) c.fill.ensures.value c.fill.ensures.cells_after refl in
    record { value = m.0; cells_after = m.1 }

pub returns-in-6 : goal.returns-in-6
returns-in-6 c =
    let a = c.args in
    let few = partition a.message.now c.requires.message_value c.in-6.is in
    let n = c.requires.cells_len in
    let e = c.in-6.is in
    let m = marked_one a.cells.now a.message.now (512 + byte 2 a.message.now) (cells_06 a.message.now e) (λ z. omega arith)
    (omega arith) c.mark.ensures.value c.mark.ensures.cells_after in
    record { value = m.0; cells_after = m.1 }

pub returns-in-7 : goal.returns-in-7
returns-in-7 c =
    let a = c.args in
    let n = c.requires.cells_len in
    let e = c.in-7.is in
    let m = marked_one a.cells.now a.message.now 520 (cells_07 a.message.now e) (λ z. omega arith) (omega arith)
    c.mark-in-7.ensures.value c.mark-in-7.ensures.cells_after in
    record { value = m.0; cells_after = m.1 }

pub returns-in_default : goal.returns-in_default
returns-in_default c =
    let a = c.args in
    let n = c.requires.cells_len in
    let five = (status_is a.message.now c.requires.message_value).1 in
    let least = five.least in
    let most = five.most in
    let e : number_of (byte 1 a.message.now) ≡ 0x08 = omega arith in
    let m = marked_one a.cells.now a.message.now 521 (cells_08 a.message.now e) (λ z. omega arith) (omega arith)
    c.mark-in_default.ensures.value c.mark-in_default.ensures.cells_after in
    record { value = m.0; cells_after = m.1 }
