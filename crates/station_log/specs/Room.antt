-- Document 02, No. 7: making room in a full log. Assumes nothing.
use Rattle.std.specs.Prelude.{ℕ, ◌-◌, ◌≡◌, Bool, true, false, cond, ◌&&◌, ◌||◌, List, [], ◌∷◌, ◌++◌, eqb, length, take}
use Rattle.std.proofs.Math.Option.{get_or}
use Rattle.std.specs.Int.Bits.{bit_or}
use Rattle.standard.specs.Refusals.{Written}
use Rattle.standard.specs.Words.{byte, laid}
use Rattle.standard.specs.Messages.{number_of}
use Rattle.standard.specs.Table.{Write, stores, marks, writes_of}
use Rattle.station_log.specs.Log.{joined, records_of, log_refusal}

-- ---- which records go

-- what a message writes, by the table of document 01, and what some messages write, one after another
abbrev pub message_writes : List ℕ → List Write
message_writes m = writes_of (number_of (byte 1 m)) m

unfoldable pub all_writes : List (List ℕ) → List Write
all_writes [] = []
all_writes (m ∷ ms) = message_writes m ++ all_writes ms

-- whether some writes store a byte at a place, and the bits that they set in the mark there, together
unfoldable pub stored : ℕ → List Write → Bool
stored place [] = false
stored place (stores p b ∷ ws) = eqb p place || stored place ws
stored place (marks p bits ∷ ws) = stored place ws

unfoldable pub marked : ℕ → List Write → ℕ
marked place [] = 0
marked place (stores p b ∷ ws) = marked place ws
marked place (marks p bits ∷ ws) = cond (eqb p place) (bit_or bits (marked place ws)) (marked place ws)

-- "is written or set by later ones together": of bits that are set there, none is new
abbrev pub again : List Write → Write → Bool
again later (stores place b) = stored place later
again later (marks place bits) = eqb (bit_or bits (marked place later)) (marked place later)

-- "every table byte it writes, and every mark bit it sets"
unfoldable pub all_again : List Write → List Write → Bool
all_again later [] = true
all_again later (w ∷ ws) = again later w && all_again later ws

unfoldable pub needless : List (List ℕ) → List ℕ → Bool
needless later m = all_again (all_writes later) (message_writes m)

-- "drop a record exactly if", "the order of the kept records stays": of messages newest first, behind which stand
-- later ones
unfoldable pub kept_of : List (List ℕ) → List (List ℕ) → List (List ℕ)
kept_of later [] = []
kept_of later (m ∷ older) =
    cond (needless later m) (kept_of (m ∷ later) older) (m ∷ kept_of (m ∷ later) older)

-- ---- what the call answers, and what it leaves

-- the log made smaller
unfoldable pub smaller : List ℕ → List ℕ
smaller log = joined (kept_of [] (get_or (records_of log) []))

-- "Refusals: 16 and 17, as in No. 6"; 0 and the bytes that were won
unfoldable pub won_of : List ℕ → ℕ → Written
won_of log used = record {
  number = log_refusal log used;
  length = cond (eqb (log_refusal log used) 0) (used - length (smaller (take used log))) 0;
}

-- "Make it smaller where it stands"; "bytes beyond the new used length stay"
unfoldable pub after_room : List ℕ → ℕ → List ℕ
after_room log used = cond (eqb (log_refusal log used) 0) (laid log 0 (smaller (take used log))) log

-- what `make_room` promises: its answer, and every byte of the buffer
pub record MakesRoom (log : List ℕ) (used : ℕ) (answer : Written) (after : List ℕ) : Type 0 where
  pub says : answer ≡ won_of log used
  pub leaves : after ≡ after_room log used
