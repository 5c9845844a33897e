-- A read by a reader in numbers, which becomes the next: the words of private contracts. Assumes nothing.
use Rattle.std.specs.Prelude.{ℕ, ◌+◌, ◌≤◌, ◌≡◌, List, length, take, drop}
use Rattle.standard.specs.Messages.{longest, longest_known}
use Rattle.nx584.specs.declared.CReader.{CReader}
use Rattle.nx584.specs.declared.CReading.{CReading}
use Rattle.nx584.specs.declared.CSaid.{CSaid}
use Rattle.nx584.specs.Boundary.{padded, c_reading, c_read}

-- a read that uses no byte, with a verdict that hands out nothing
abbrev pub refused_as : ℕ → CSaid
refused_as number = record { used = 0; verdict = record { number = number; type_byte = 0; length = 0 } }

-- the message stands in the next reader's bytes after the length byte
abbrev pub message_in : CReader → CSaid → List ℕ
message_in r s = take s.verdict.length (drop 1 r.bytes)

abbrev pub took_in : CReader → CSaid → List ℕ → CReading
took_in r s message = record {
  reader = r;
  used = s.used;
  verdict = s.verdict.number;
  type_byte = s.verdict.type_byte;
  length = s.verdict.length;
  message = message;
}

abbrev pub reading_in : CReader → CSaid → CReading
reading_in r s = took_in r s (padded (message_in r s))

-- the next reader and what is said are the read's answer; its message is one of the 41, and stands in the reader's bytes
pub record CScans (c : CReader) (bs : List ℕ) (s : CSaid) (next : CReader) : Type 0 where
  pub says : reading_in next s ≡ c_reading (c_read c bs)
  pub few : s.verdict.length ≤ longest_known
  pub sized : length next.bytes ≡ longest + 3
