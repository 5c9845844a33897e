-- Callers of `nx584_read` and `nx584_hear`, for demand 3: over what the calls answer in C's numbers, and nothing else.
-- A verdict of 255 hands out nothing. Assumes nothing.
use Rattle.std.specs.Prelude.{ℕ, zero, suc, ◌+◌, ◌≡◌, cond, List, [], ◌∷◌, ◌++◌, eqb, length, take, drop}
use Rattle.standard.specs.Judge.{Handed}
use Rattle.reader.specs.Calls.{joined, handed_before}
use Rattle.host.specs.Hearings.{Heard, no_call, also_heard}
use Rattle.nx584.specs.declared.CReader.{CReader}
use Rattle.nx584.specs.declared.CReading.{CReading}
use Rattle.nx584.specs.declared.CHearing.{CHearing}
use Rattle.nx584.specs.Boundary.{c_read, c_reading, c_heard, c_hearing, c_left, CHears}

-- ---- what an answer says

-- the verdict, the type byte, and as many bytes of the message as its length says
abbrev pub handed_by : ℕ → ℕ → ℕ → List ℕ → List Handed
handed_by verdict type_byte_of size message =
    cond (eqb verdict 255) [] (record { verdict = verdict; type_byte_of = type_byte_of; message = take size message } ∷ [])

abbrev pub reading_hands : CReading → List Handed
reading_hands a = handed_by a.verdict a.type_byte a.length a.message

abbrev pub hearing_hands : CHearing → List Handed
hearing_hands a = handed_by a.verdict a.type_byte a.length a.message

-- ---- callers of `nx584_read`

-- what n calls hand out, or fewer where the reads are used up; what a call left unused is handed in before the next
-- read
unfoldable pub c_calls_of : ℕ → CReader → List (List ℕ) → List Handed
c_calls_of zero c reads = []
c_calls_of (suc n) c [] = []
c_calls_of (suc n) c (bs ∷ reads) =
    let a = c_reading (c_read c bs) in
    reading_hands a ++ c_calls_of n a.reader (handed_before (drop a.used bs) reads)

-- THE RUN over a list of reads: a call uses a byte or ends a read, so that this many are enough
unfoldable pub c_drive : CReader → List (List ℕ) → List Handed
c_drive c reads = c_calls_of (length (joined reads) + length reads) c reads

-- any caller: after a call it hands in what was left and what is still to come, cut again as it likes
pub data CCalls : CReader → List (List ℕ) → List Handed → Type 0 where
  finished : {c : CReader} → CCalls c [] []
  call : {c : CReader} {bs : List ℕ} {reads again : List (List ℕ)} {hs : List Handed} {a : CReading}
      → a ≡ c_reading (c_read c bs) → joined again ≡ drop a.used bs ++ joined reads → CCalls a.reader again hs
      → CCalls c (bs ∷ reads) (reading_hands a ++ hs)

-- ---- callers of `nx584_hear`

unfoldable pub c_hearings_of : ℕ → CReader → List ℕ → List (List ℕ) → Heard
c_hearings_of zero c t reads = no_call t
c_hearings_of (suc n) c t [] = no_call t
c_hearings_of (suc n) c t (bs ∷ reads) =
    let a = c_hearing (c_heard c t bs) in
    let left = handed_before (drop a.used bs) reads in
    also_heard (hearing_hands a) a.reply (c_hearings_of n a.reader (c_left c t bs) left)

unfoldable pub c_hear_all : CReader → List ℕ → List (List ℕ) → Heard
c_hear_all c t reads = c_hearings_of (length (joined reads) + length reads) c t reads

pub data CHearings : CReader → List ℕ → List (List ℕ) → Heard → Type 0 where
  done : {c : CReader} {t : List ℕ} → CHearings c t [] (no_call t)
  hear : {c : CReader} {t bs after : List ℕ} {reads again : List (List ℕ)} {later : Heard} {a : CHearing}
      → CHears c t bs a after → joined again ≡ drop a.used bs ++ joined reads
      → CHearings a.reader after again later
      → CHearings c t (bs ∷ reads) (also_heard (hearing_hands a) a.reply later)
