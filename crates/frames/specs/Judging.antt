-- The judgement of a frame from its recovered bytes, with its length byte first. Assumes nothing.
use Rattle.std.specs.Prelude.{ℕ, List, [], drop, slice_index}
use Rattle.std.proofs.Math.Option.{none}
use Rattle.std.specs.Prelude.{Option}
use Rattle.standard.specs.declared.Verdict.{Verdict}
use Rattle.std.specs.Prelude.{Some, None}
use Rattle.standard.specs.Judge.{Handed, Judged, decided, unfinished, whole_of, frame_judged, verdict_for}

-- "at that byte the order is 3, 5, 6, 7, 8", after 4 "at the length byte"; 3 is not asked here
abbrev pub judged_frame : List ℕ → Judged
judged_frame frame = frame_judged frame none (λ L rest. decided (whole_of [] L rest))

-- of a frame that has its sums
abbrev pub judged_of : List ℕ → Handed
judged_of frame = whole_of [] (slice_index frame 0) (drop 1 frame)

-- a judgement as code says it: silent while the frame is unfinished
abbrev pub said_of : Judged → Option Verdict
said_of (decided h) = Some (verdict_for h)
said_of unfinished = None
