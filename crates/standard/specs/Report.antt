-- Document 01, "The program `nxread`": its text, as bytes. Assumes nothing.
use Rattle.std.specs.Prelude.{ℕ, ◌+◌, ◌/◌, ◌%◌, ◌≡◌, cond, eqb, ltb, length, take}
use mathlib.Core.List.{List, [], ◌∷◌, ◌++◌, flat_map}
use Rattle.standard.specs.declared.Framing.TheVariants.{Binary}
use Rattle.standard.specs.declared.Escapes.TheVariants.{Lenient}
use Rattle.standard.specs.Refusals.{Written}
use Rattle.standard.specs.Words.{laid}
use Rattle.standard.specs.Framing.{two_digits}
use Rattle.standard.specs.Judge.{Handed, carries_type}
use Rattle.standard.specs.Stream.{handed_of}
use Rattle.standard.specs.Replies.{reply_of}
use Rattle.standard.specs.Table.{fresh, table_after}
use Rattle.standard.specs.Overview.{heard_of, faulted_of, group_numbers}

-- "at most its first 65,536 bytes"
abbrev pub most_read : ℕ
most_read = 65536

-- a number below 100 in decimal; the greatest printed is 16
abbrev pub decimal : ℕ → List ℕ
decimal n = cond (ltb n 10) ((48 + n) ∷ []) ((48 + n / 10) ∷ (48 + n % 10) ∷ [])

-- `--`
abbrev pub dashes : List ℕ
dashes = 0x2D ∷ 0x2D ∷ []

-- "the type byte with bit 7 clear in two hex digits (for 0, 6, 7, 8, else `--`)"
abbrev pub type_text : Handed → List ℕ
type_text h = cond (carries_type h.verdict) (two_digits (h.type_byte_of % 128)) dashes

-- "reply number in two hex digits or `--`"
abbrev pub reply_text : ℕ → List ℕ
reply_text reply = cond (eqb reply 0) dashes (two_digits reply)

-- "One space parts fields, 0Ah ends each line": the line of a verdict that gets this reply
abbrev pub line_with : Handed → ℕ → List ℕ
line_with h reply = decimal h.verdict ++ (0x20 ∷ type_text h) ++ (0x20 ∷ reply_text reply) ++ (0x0A ∷ [])

abbrev pub verdict_line : Handed → List ℕ
verdict_line h = line_with h (reply_of h.verdict h.type_byte_of)

-- minus 9999, which "exists only in print"
abbrev pub minus9999 : List ℕ
minus9999 = 0x2D ∷ 0x39 ∷ 0x39 ∷ 0x39 ∷ 0x39 ∷ []

abbrev pub faulted_text : ℕ → ℕ → List ℕ
faulted_text heard faulted = cond (eqb heard 0) minus9999 (decimal faulted)

-- "group, heard, faulted; or group, 0, -9999"
abbrev pub counts_line : ℕ → ℕ → ℕ → List ℕ
counts_line group heard faulted =
    decimal group ++ (0x20 ∷ decimal heard) ++ (0x20 ∷ faulted_text heard faulted) ++ (0x0A ∷ [])

abbrev pub group_line : List ℕ → ℕ → List ℕ
group_line t k = counts_line k (heard_of t k) (faulted_of t k)

-- "For each verdict one line", "then a line for each group"
unfoldable pub report_on : List Handed → List ℕ
report_on hs = flat_map verdict_line hs ++ flat_map (group_line (table_after fresh hs)) group_numbers

-- THE REPORT on a capture, which is read by the old rule of escapes (document 02, No. 5)
abbrev pub report_of : List ℕ → List ℕ
report_of capture = report_on (handed_of Lenient Binary (take most_read capture))

-- ---- the report in a lent buffer

-- the bytes of the longest report: every report fits in so many, and one has as many
abbrev pub longest_report : ℕ
longest_report = 524447

-- 9, where the buffer is shorter than the longest report; "a refusal says length 0"
abbrev pub reported_of : List ℕ → List ℕ → Written
reported_of capture out =
    cond (ltb (length out) longest_report)
    (record { number = 9; length = 0 })
    (record { number = 0; length = length (report_of capture) })

-- the report at the beginning of the buffer, whose other bytes stay; a refusal leaves it
abbrev pub after_report : List ℕ → List ℕ → List ℕ
after_report capture out = cond (ltb (length out) longest_report) out (laid out 0 (report_of capture))

-- what `report` promises: its answer, and every byte of the buffer
pub record Reported (capture out : List ℕ) (answer : Written) (after : List ℕ) : Type 0 where
  pub says : answer ≡ reported_of capture out
  pub leaves : after ≡ after_report capture out
