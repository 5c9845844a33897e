-- Document 01, "Verdicts and refusals": the verdict on a part, from its whole bytes. A part is a start byte and what
-- follows it, up to the next start byte or the end. Assumes nothing.
use Rattle.std.specs.Prelude.{ℕ, ◌+◌, ◌*◌, Bool, cond, not, ◌&&◌, ◌||◌, List, [], ◌∷◌, ◌++◌, eqb, leb, ltb, length, take, drop, get_or}
use Rattle.std.proofs.Math.Option.{Option, none, some}
use Rattle.standard.specs.declared.Framing.{Framing}
use Rattle.standard.specs.declared.Framing.TheVariants.{Binary, Ascii}
use Rattle.standard.specs.declared.Escapes.{Escapes}
use Rattle.standard.specs.declared.Verdict.{Verdict}
use Rattle.std.specs.Prelude.{Option as AtMostOne}
use Rattle.std.specs.Prelude.{Some, None}
use Rattle.standard.specs.Words.{byte, first_of}
use Rattle.standard.specs.Sums.{sums_of}
use Rattle.standard.specs.Messages.{length_ok, message_tests}
use Rattle.standard.specs.Framing.{recovered}

-- what is handed out with a verdict: its number, the type byte (0 unless it carries one), the message (empty unless the
-- verdict is 0)
pub record Handed : Type 0 where
  pub verdict : ℕ
  pub type_byte_of : ℕ
  pub message : List ℕ

pub data Judged : Type 0 where
  decided : Handed → Judged
  unfinished : Judged

-- a good message has its type byte, and "verdicts 6 to 8 carry the type byte"
abbrev pub carries_type : ℕ → Bool
carries_type verdict = eqb verdict 0 || leb 6 verdict && leb verdict 8

abbrev pub handing : ℕ → List ℕ → Handed
handing verdict m = record {
  verdict = verdict;
  type_byte_of = cond (carries_type verdict) (byte 1 m) 0;
  message = cond (eqb verdict 0) m [];
}

-- a verdict that hands out nothing
abbrev pub plain : ℕ → Judged
plain verdict = decided (handing verdict [])

-- "sums differ": of a whole frame, its length byte L and those after it
abbrev pub sums_differ : ℕ → List ℕ → Bool
sums_differ L rest =
    let sums = sums_of (L ∷ take L rest) in
    not (eqb (get_or rest L 0) sums.one && eqb (get_or rest (L + 1) 0) sums.two)

-- "the order is 3, 5, 6, 7, 8"; `stop` is the test for 3, where there is one
unfoldable pub whole_of : List (Bool × ℕ) → ℕ → List ℕ → Handed
whole_of stop L rest = handing (first_of (stop ++ ((sums_differ L rest, 5) ∷ message_tests (take L rest)))) (take L rest)

-- ASCII: the verdict falls "at the stop place"; 3: "a byte other than 0Dh and 0Ah where the stop is due"
abbrev pub at_stop : List ℕ → ℕ → List ℕ → Judged
at_stop [] L rest = unfinished
at_stop (c ∷ cs) L rest = decided (whole_of ((not (eqb c 0x0D), 3) ∷ []) L rest)

-- "binary at the last sum byte, ASCII at the stop place": after two characters for each of length, message and sums
abbrev pub ended : Framing → List ℕ → ℕ → List ℕ → Judged
ended Binary after L rest = decided (whole_of [] L rest)
ended Ascii after L rest = at_stop (drop (2 * (L + 3)) after) L rest

-- nothing more is recovered: the byte that stopped it decides, and with none the part is unfinished
abbrev pub stuck : Option ℕ → Judged
stuck none = unfinished
stuck (some verdict) = plain verdict

-- of the recovered bytes: the first is the length L, and 4 "at the length byte"; L message bytes and two sums follow,
-- and then the end decides
abbrev pub frame_judged : List ℕ → Option ℕ → (ℕ → List ℕ → Judged) → Judged
frame_judged [] fault end = stuck fault
frame_judged (L ∷ rest) fault end =
    cond (length_ok L) (cond (ltb (length rest) (L + 2)) (stuck fault) (end L rest)) (plain 4)

-- the judgement of the bytes after a start byte
abbrev pub judge_after : Escapes → Framing → List ℕ → Judged
judge_after rule f after =
    frame_judged (recovered rule f after).bytes (recovered rule f after).fault (ended f after)

-- THE JUDGEMENT of a part, by a rule of escapes
abbrev pub judge : Escapes → Framing → List ℕ → Judged
judge rule f part = judge_after rule f (drop 1 part)

-- ---- the same as code says it

-- a verdict as code hands it out: its message by its length, whose bytes stand in the reader
abbrev pub verdict_for : Handed → Verdict
verdict_for h = record { number = h.verdict; type_byte = h.type_byte_of; length = length h.message }

-- the verdicts of "at most one verdict"
abbrev pub verdicts_in : AtMostOne Verdict → List Verdict
verdicts_in None = []
verdicts_in (Some v) = v ∷ []

-- the paper's number and values of each case; a message stands in the reader's bytes after the length byte
abbrev pub handed_in : AtMostOne Verdict → List ℕ → List Handed
handed_in None bytes = []
handed_in (Some v) bytes =
    record { verdict = v.number; type_byte_of = v.type_byte; message = take v.length (drop 1 bytes) } ∷ []
