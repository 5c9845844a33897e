-- What C gets of a table's records: include/nx584.h. Places and refusals are those of document 01's table. Assumes
-- nothing.
use Rattle.std.specs.Prelude.{ℕ, cond, List, eqb, take, drop, replicate}
use Rattle.standard.specs.Words.{byte}
use Rattle.standard.specs.Table.{zone_mark, zone_short}
use Rattle.standard.specs.Questions.{table_refusal, partition_refusal, zone_part, partition_part, system_part}
use Rattle.nx584.specs.declared.CZone.{CZone}
use Rattle.nx584.specs.declared.CPartition.{CPartition}
use Rattle.nx584.specs.declared.CSystem.{CSystem}

-- a byte of a record, and 0 where the question is refused
abbrev pub byte_unless : ℕ → ℕ → ℕ
byte_unless refusal b = cond (eqb refusal 0) b 0

-- a part of a record, and as many zeros where the question is refused
abbrev pub part_unless : ℕ → ℕ → List ℕ → List ℕ
part_unless refusal size part = cond (eqb refusal 0) part (replicate size 0)

-- a zone: 0 or 11, its mark, its short flags, and the six bytes from mask to condition flags 2
abbrev pub c_zone : List ℕ → ℕ → CZone
c_zone t zone = record {
  number = table_refusal t;
  mark = byte_unless (table_refusal t) (zone_mark t zone);
  flags = byte_unless (table_refusal t) (zone_short t zone);
  bytes = part_unless (table_refusal t) 6 (zone_part t zone);
}

-- a partition: 0, or 11, then 8; its mark, the short byte of 07h, and the seven bytes of 06h
abbrev pub c_partition : List ℕ → ℕ → CPartition
c_partition t partition = record {
  number = partition_refusal t partition;
  mark = byte_unless (partition_refusal t partition) (byte 1 (partition_part t partition));
  flags = byte_unless (partition_refusal t partition) (byte 9 (partition_part t partition));
  bytes = part_unless (partition_refusal t partition) 7 (take 7 (drop 1 (partition_part t partition)));
}

-- the system: 0 or 11, its mark, and the eleven bytes of 08h
abbrev pub c_system : List ℕ → CSystem
c_system t = record {
  number = table_refusal t;
  mark = byte_unless (table_refusal t) (byte 1 (system_part t));
  bytes = part_unless (table_refusal t) 11 (drop 1 (system_part t));
}
