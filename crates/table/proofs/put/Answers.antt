-- `table::put` meets its contract: a good message of 04h to 08h has the length of its number and values within its
-- places, and each arm does the writes of its number. Assumes nothing.
use Rattle.std.proofs.Common.{◌≡◌, true, ℕ, List, length, sym, ◌∙◌, arith}
use Rattle.standard.specs.Words.{byte}
use Rattle.standard.specs.Messages.{known, length_in, number_of, is_status}
use Rattle.standard.specs.Table.{table_bytes, writes_of, done_all, applied_to}
use Rattle.standard.proofs.Messages.{Passed, passed, passed_number, passed_offset, passed_partition}
use Rattle.standard.proofs.Applied.{taken_leaves}
use Rattle.standard.proofs.Status.{status_is}
use Rattle.table.proofs.put.Goals as goal

good : (m : List ℕ) → is_status m ≡ true → Passed m
good m h = passed m (status_is m h).0

sized : (m : List ℕ) {n : ℕ} → is_status m ≡ true → number_of (byte 1 m) ≡ n → length m ≡ length_in known n
sized m {n} h e = passed_number m n (good m h) e

-- the writes of its number are what is left of the table
left : (t m : List ℕ) {n : ℕ} {after : List ℕ} → length t ≡ table_bytes → is_status m ≡ true
    → number_of (byte 1 m) ≡ n
    → after ≡ done_all (writes_of n m) t
    → after ≡ applied_to t m
left t m w h e f = f ∙ sym (taken_leaves record { number = e; whole = w; good = (status_is m h).0 })

pub bounds-message-0 : goal.bounds-message-0
bounds-message-0 c = (good c.args.message.now c.requires).sized.some

pub put_zone-requires : goal.put_zone-requires
put_zone-requires c = sized c.args.message.now c.requires c.in-4.is

pub put_zones-requires-clause-message_len : goal.put_zones-requires-clause-message_len
put_zones-requires-clause-message_len c = sized c.args.message.now c.requires c.in-5.is

pub put_zones-requires-clause-message_bound : goal.put_zones-requires-clause-message_bound
put_zones-requires-clause-message_bound c = let m = c.args.message.now in passed_offset m (good m c.requires) c.in-5.is

pub put_partition-requires-clause-message_len : goal.put_partition-requires-clause-message_len
put_partition-requires-clause-message_len c = sized c.args.message.now c.requires c.in-6.is

pub put_partition-requires-clause-message_bound : goal.put_partition-requires-clause-message_bound
put_partition-requires-clause-message_bound c =
    let m = c.args.message.now in passed_partition m (good m c.requires) c.in-6.is

pub put_partitions-requires : goal.put_partitions-requires
put_partitions-requires c = sized c.args.message.now c.requires c.in-7.is

pub put_system-requires : goal.put_system-requires
put_system-requires c =
    let m = c.args.message.now in
    let five = (status_is m c.requires).1 in
    sized m {n = 0x08} c.requires (omega (arith, five.least, five.most))

pub returns-in-4 : goal.returns-in-4
unfolding writes_of
returns-in-4 c = left c.args.table.now c.args.message.now c.told-table c.requires c.in-4.is c.put_zone.ensures

pub returns-in-5 : goal.returns-in-5
unfolding writes_of
returns-in-5 c = left c.args.table.now c.args.message.now c.told-table c.requires c.in-5.is c.put_zones.ensures

pub returns-in-6 : goal.returns-in-6
unfolding writes_of
returns-in-6 c = left c.args.table.now c.args.message.now c.told-table c.requires c.in-6.is c.put_partition.ensures

pub returns-in-7 : goal.returns-in-7
unfolding writes_of
returns-in-7 c = left c.args.table.now c.args.message.now c.told-table c.requires c.in-7.is c.put_partitions.ensures

pub returns-in_default : goal.returns-in_default
unfolding writes_of
returns-in_default c =
    let m = c.args.message.now in
    let five = (status_is m c.requires).1 in
    left c.args.table.now m {n = 0x08} c.told-table c.requires (omega (arith, five.least, five.most)) c.put_system.ensures
