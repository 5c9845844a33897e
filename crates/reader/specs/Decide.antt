-- What the private functions of the code promise: a decision is made with no look at the array, and done to the bytes
-- held it is the step.
-- Assumes nothing.
use Rattle.std.specs.Prelude.{ℕ, ◌+◌, ◌≤◌, ◌≡◌, cond, List, [], ◌∷◌, ◌++◌, eqb, length, get_or}
use Rattle.std.specs.Prelude.{Option, Some, None}
use Rattle.standard.specs.declared.Framing.{Framing}
use Rattle.standard.specs.declared.Escapes.{Escapes}
use Rattle.standard.specs.Framing.{start_of}
use Rattle.standard.specs.Judge.{Handed, handing}
use Rattle.standard.specs.Stream.{up_to_start}
use Rattle.frames.specs.declared.Taken.{Taken}
use Rattle.frames.specs.Plain.{TakesPlain}
use Rattle.frames.specs.Judging.{judged_of}
use Rattle.reader.specs.declared.Mode.{Mode}
use Rattle.reader.specs.declared.Mode.TheVariants.{Skipping, Open}
use Rattle.reader.specs.declared.Outcome.{Outcome}
use Rattle.reader.specs.declared.Outcome.TheVariants.{Nothing, Number, Judgement}
use Rattle.reader.specs.declared.Decision.{Decision}
use Rattle.reader.specs.Step.{Step, ends, opens, step_of}

-- ---- steps, by the bytes held

-- one byte, in a mode
abbrev pub step_in : Escapes → Mode → ℕ → List ℕ → Step
step_in rule mode b held = step_of rule (record { mode = mode; held = held }) b

-- a start byte, in a mode
abbrev pub opens_in : Mode → List ℕ → Step
opens_in mode held = opens (record { mode = mode; held = held })

-- ---- a decision, done to the bytes held

-- the frame's bytes after it: one more is kept, or none
abbrev pub kept_by : Option ℕ → List ℕ → List ℕ
kept_by None held = held
kept_by (Some byte) held = held ++ (byte ∷ [])

-- of these, the bytes held: none, or all
abbrev pub held_by : Decision → List ℕ → List ℕ
held_by d held = cond (eqb d.held 0) [] (kept_by d.keep held)

-- what is handed out of the frame's bytes
abbrev pub said_by : Outcome → List ℕ → List Handed
said_by Nothing frame = []
said_by (Number number) frame = handing number [] ∷ []
said_by Judgement frame = judged_of frame ∷ []

-- a byte that is kept in silence is held, and a frame that is judged has its sums
abbrev pub Bound : Outcome → Option ℕ → ℕ → List ℕ → Type 0
Bound Nothing (Some byte) n frame = n ≡ length frame
Bound Nothing None n frame = Unit {0}
Bound (Number number) keep n frame = Unit {0}
Bound Judgement keep n frame = get_or frame 0 0 + 3 ≤ length frame

-- it is this step
pub record Done (d : Decision) (held : List ℕ) (s : Step) : Type 0 where
  pub next : s.next ≡ record { mode = d.mode; held = held_by d held }
  pub said : s.said ≡ said_by d.outcome (kept_by d.keep held)
  pub kept : s.kept ≡ kept_by d.keep held
  pub count : d.held ≡ length (held_by d held)
  pub bound : Bound d.outcome d.keep d.held (kept_by d.keep held)

-- whatever is held
abbrev pub Always : Decision → (List ℕ → Step) → Type 0
Always d step = (held : List ℕ) → Done d held (step held)

-- for n bytes held
abbrev pub ForHeld : ℕ → Decision → (List ℕ → Step) → Type 0
ForHeld n d step = (held : List ℕ) → length held ≡ n → Done d held (step held)

-- for n bytes held of which this is the first, if there is one
abbrev pub Decides : ℕ → ℕ → Decision → (List ℕ → Step) → Type 0
Decides n first d step = (held : List ℕ) → length held ≡ n → get_or held 0 first ≡ first → Done d held (step held)

-- for bytes held that make a frame with its sums
abbrev pub Judges : Framing → Decision → (List ℕ → List ℕ) → Type 0
Judges f d frame =
    (held : List ℕ) → get_or (frame held) 0 0 + 3 ≤ length (frame held)
    → Done d held (ends f (judged_of (frame held)) (frame held))

-- ---- what is skipped

-- how many bytes a read passes over before it decides on one: "everything up to the next start"
abbrev pub skipped_in : Mode → List ℕ → ℕ
skipped_in (Skipping f) bytes = length (up_to_start (start_of f) bytes)
skipped_in _ bytes = 0

-- ---- plain bytes at once

-- in an open frame those that it takes, and none in any other mode
abbrev pub TakesIn : Mode → ℕ → List ℕ → List ℕ → Taken → List ℕ → Type 0
TakesIn (Open f) n frame bytes taken after = TakesPlain f n frame bytes taken after
TakesIn _ n frame bytes taken after = (taken ≡ record { count = 0; used = 0 }) × (after ≡ frame)
