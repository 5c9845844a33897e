-- Document 01, "The table": the questions about a table, each answered by a number or by a part of the table. Zones and
-- partitions are counted from 0, as in Table.antt. Assumes nothing.
use Rattle.std.specs.Prelude.{ℕ, ◌+◌, ◌≡◌, cond, not, List, [], ◌∷◌, eqb, leb, take, drop}
use Rattle.standard.specs.Words.{first_of}
use Rattle.standard.specs.Table.{table_test, zone_place, partition_place, system_place}

-- every zone is a byte, so a question about one, or about the system, is refused for the table alone
unfoldable pub table_refusal : List ℕ → ℕ
table_refusal t = first_of (table_test t ∷ [])

-- 8: "a checked value is wrong"; "partition at most 7"; after 11, as "order of refusal: 11, 4, 6, 7, 8" has it
unfoldable pub partition_refusal : List ℕ → ℕ → ℕ
partition_refusal t partition = first_of (table_test t ∷ (not (leb partition 7), 8) ∷ [])

-- "Zone: mark, partition mask, type flags 1-3, condition flags 1-2, short flags": the six from mask to condition 2,
-- "bytes 3-8" of 04h
abbrev pub zone_part : List ℕ → ℕ → List ℕ
zone_part t zone = take 6 (drop (zone_place zone + 1) t)

-- "Partition: mark, the seven bytes of 06h from byte 3, short byte of 07h"
abbrev pub partition_part : List ℕ → ℕ → List ℕ
partition_part t partition = take 9 (drop (partition_place partition) t)

-- "System: mark, bytes 2-12 of 08h"
abbrev pub system_part : List ℕ → List ℕ
system_part t = take 12 (drop system_place t)

-- what a question promises: the refusal's number, and the answer; "a refused call's counts and lengths are 0, .. its
-- returned parts empty"
pub record Answered {A : Type 0} (none : A) (refusal : ℕ) (value : A) (number : ℕ) (answer : A) : Type 0 where
  pub says : number ≡ refusal
  pub gives : answer ≡ cond (eqb refusal 0) value none
