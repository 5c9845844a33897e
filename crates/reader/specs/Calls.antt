-- Callers of `read`, for demand 3: reads handed in one after another, and what a call left unused before the next. Over
-- `read_of` alone. Assumes nothing.
use Rattle.std.specs.Prelude.{ℕ, zero, suc, ◌+◌, ◌≤◌, ◌<◌, ◌≡◌, List, [], ◌∷◌, ◌++◌, length, take, drop}
use Rattle.standard.specs.declared.Framing.{Framing}
use Rattle.standard.specs.declared.Framing.TheVariants.{Binary, Ascii}
use Rattle.standard.specs.declared.Escapes.{Escapes}
use Rattle.standard.specs.Framing.{start_of, digit, coding}
use Rattle.standard.specs.Judge.{Handed}
use Rattle.standard.specs.Stream.{handed_of}
use Rattle.reader.specs.declared.Mode.{Mode}
use Rattle.reader.specs.declared.Mode.TheVariants.{Skipping, Open, Escape, Digit}
use Rattle.reader.specs.declared.Reader.{Reader}
use Rattle.reader.specs.Step.{State}
use Rattle.reader.specs.Read.{fresh_reader, state_of, read_of}

-- the bytes of some reads, one after another
abbrev pub joined : List (List ℕ) → List ℕ
joined [] = []
joined (bs ∷ reads) = bs ++ joined reads

-- what a call left unused is handed in before the next read
abbrev pub handed_before : List ℕ → List (List ℕ) → List (List ℕ)
handed_before [] reads = reads
handed_before (b ∷ left) reads = (b ∷ left) ∷ reads

-- what n calls hand out, or fewer where the reads are used up
unfoldable pub calls_of : ℕ → Reader → List (List ℕ) → List Handed
calls_of zero r reads = []
calls_of (suc n) r [] = []
calls_of (suc n) r (bs ∷ reads) =
    (read_of r bs).said ++ calls_of n (read_of r bs).reader (handed_before (drop (read_of r bs).used bs) reads)

-- THE RUN over a list of reads: a call uses a byte or ends a read, so that this many are enough
unfoldable pub drive : Reader → List (List ℕ) → List Handed
drive r reads = calls_of (length (joined reads) + length reads) r reads

-- any caller: after a call it hands in what was left and what is still to come, cut again as it likes
pub data Calls : Reader → List (List ℕ) → List Handed → Type 0 where
  finished : {r : Reader} → Calls r [] []
  call : {r : Reader} {bs : List ℕ} {reads again : List (List ℕ)} {hs : List Handed}
      → joined again ≡ drop (read_of r bs).used bs ++ joined reads
      → Calls (read_of r bs).reader again hs → Calls r (bs ∷ reads) ((read_of r bs).said ++ hs)

-- the readers met from a fresh one, with all the bytes that the reads have used
pub data Reached (rule : Escapes) (f : Framing) : List ℕ → Reader → Type 0 where
  fresh : Reached rule f [] (fresh_reader rule f)
  read : {stream : List ℕ} {r : Reader} (bs : List ℕ) → Reached rule f stream r
      → Reached rule f (stream ++ take (read_of r bs).used bs) (read_of r bs).reader

-- a stream that leads to a mode and the bytes held, by either rule of escapes: none between frames; in a frame its
-- start, those bytes as they are sent, and what is pending
abbrev pub lead_to : Mode → List ℕ → List ℕ
lead_to (Skipping f) held = []
lead_to (Open f) held = start_of f ∷ coding f held
lead_to Escape held = start_of Binary ∷ coding Binary held ++ (0x7D ∷ [])
lead_to (Digit d) held = start_of Ascii ∷ coding Ascii held ++ (digit d ∷ [])

-- a stream that leads to a sound reader
abbrev pub stream_to : Reader → List ℕ
stream_to r = lead_to r.mode (state_of r).held

-- a reader that a stream leads to, in this mode and with these bytes held
pub record Meets (rule : Escapes) (f : Framing) (stream : List ℕ) (s : State) : Type 0 where
  pub reader : Reader
  pub reached : Reached rule f stream reader
  pub same : state_of reader ≡ s

-- the used-byte rule, from the bytes: after a stream, a read uses the fewest bytes that give the stream one verdict
-- more, and says that verdict; or it uses all, and the stream has no verdict more
pub record Uses (rule : Escapes) (f : Framing) (stream bs : List ℕ) (used : ℕ) (said : List Handed) : Type 0 where
  pub within : used ≤ length bs
  pub verdict : handed_of rule f (stream ++ take used bs) ≡ handed_of rule f stream ++ said
  pub none_sooner : (k : ℕ) → k < used → handed_of rule f (stream ++ take k bs) ≡ handed_of rule f stream
  pub or_all : said ≡ [] → used ≡ length bs
