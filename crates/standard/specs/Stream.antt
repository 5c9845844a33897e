-- Demand 3: an uncut stream, split before every start byte, and what its parts hand out. Assumes nothing.
use Rattle.std.specs.Prelude.{ℕ, suc, ◌+◌, Bool, true, cond, ◌&&◌, List, [], ◌∷◌, ◌++◌, eqb, drop}
use Rattle.standard.specs.declared.Framing.{Framing}
use Rattle.standard.specs.declared.Escapes.{Escapes}
use Rattle.standard.specs.Framing.{start_of, escapes_needed}
use Rattle.standard.specs.Judge.{Handed, Judged, decided, unfinished, handing, judge}

-- the bytes before the next start byte, or all
abbrev pub up_to_start : ℕ → List ℕ → List ℕ
up_to_start start [] = []
up_to_start start (b ∷ bs) = cond (eqb b start) [] (b ∷ up_to_start start bs)

-- at every start byte a part begins; "bytes before the first start" are in no part
abbrev pub parts_of : ℕ → List ℕ → List (List ℕ)
parts_of start [] = []
parts_of start (b ∷ bs) = let later = parts_of start bs in cond (eqb b start) ((b ∷ up_to_start start bs) ∷ later) later

-- "an unfinished part being cut short if another start follows and silent if none does"
abbrev pub part_hands : Judged → List (List ℕ) → List Handed
part_hands (decided h) later = h ∷ []
part_hands unfinished [] = []
part_hands unfinished (part ∷ later) = handing 1 [] ∷ []

abbrev pub parts_hand : Escapes → Framing → List (List ℕ) → List Handed
parts_hand rule f [] = []
parts_hand rule f (part ∷ later) = part_hands (judge rule f part) later ++ parts_hand rule f later

-- THE VERDICTS, messages and type bytes of an uncut stream
abbrev pub handed_of : Escapes → Framing → List ℕ → List Handed
handed_of rule f stream = parts_hand rule f (parts_of (start_of f) stream)

-- ---- how many verdicts

-- the start bytes of a stream
abbrev pub starts_of : ℕ → List ℕ → ℕ
starts_of x [] = 0
starts_of x (b ∷ bs) = cond (eqb b x) (suc (starts_of x bs)) (starts_of x bs)

-- 1 for a part still open at the end
abbrev pub open_of : Judged → List (List ℕ) → ℕ
open_of (decided h) later = 0
open_of unfinished [] = 1
open_of unfinished (part ∷ later) = 0

abbrev pub last_open : Escapes → Framing → List (List ℕ) → ℕ
last_open rule f [] = 0
last_open rule f (part ∷ later) = open_of (judge rule f part) later + last_open rule f later

-- ---- escapes that were needed

abbrev pub parts_needed : Framing → List (List ℕ) → Bool
parts_needed f [] = true
parts_needed f (part ∷ later) = escapes_needed f (drop 1 part) && parts_needed f later

-- a stream whose every escape was needed: each in its part
abbrev pub stream_needed : Framing → List ℕ → Bool
stream_needed f stream = parts_needed f (parts_of (start_of f) stream)
