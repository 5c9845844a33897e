-- Answers for `reader::go`: a turn of the loop decides on a byte, keeps it where it is to be kept, and takes the plain bytes
-- that follow it.
use Rattle.std.proofs.Common.{◌≡◌, ℕ, ◌+◌, ◌-◌, ◌≤◌, ◌<◌, List, length, get_or, take, drop, arith}
use Rattle.std.proofs.Common.{length-drop, length-take-le, take_all}
use Rattle.std.specs.Prelude.{Option}
use Rattle.standard.specs.declared.Verdict.{Verdict}
use Rattle.standard.specs.Messages.{longest}
use Rattle.frames.specs.declared.Taken.{Taken}
use Rattle.frames.specs.Judging.{judged_frame, said_of}
use Rattle.reader.specs.declared.Outcome.TheVariants.{Nothing, Judgement}
use Rattle.reader.specs.declared.Decision.{Decision}
use Rattle.reader.specs.declared.Reader.{Reader}
use Rattle.reader.specs.Read.{Reads}
use Rattle.reader.specs.Decide.{step_in, Decides, TakesIn}
use Rattle.reader.proofs.State.Soundness.{sound_held}
use Rattle.reader.proofs.State.Arrays.{Whole}
use Rattle.reader.proofs.Functions.CodeLoop.{first_held, SoFar, Turn, stored_by, reader_by, room, goes_on, takes_on}
use Rattle.reader.proofs.Functions.CodeLoop.{skipped_on, reads_all, reads_number, reads_judged}
use Rattle.reader.proofs.go.Goals.{in-Some, in_default}
use Rattle.reader.proofs.go.Goals as goal

-- the bytes held have room in the array
few : {r : Reader} {bs : List ℕ} {i : ℕ} {now : Reader} → SoFar r bs i now → now.held ≤ longest + 3
few {r} {bs} {i} {now} so_far = sound_held now so_far.sound

-- a turn of the loop, once it is decided
turn : {r : Reader} {bs : List ℕ} {i : ℕ} {now : Reader} {d : Decision} → SoFar r bs i now → i < length bs
    → Decides now.held (get_or now.bytes 0 0) d (step_in now.escapes now.mode (get_or bs i 0)) → Turn r bs i now d
unfolding Whole
turn {r} {bs} {i} {now} {d} so_far inside decides = record {
  so_far = so_far;
  inside = inside;
  done = decides _ (length-take-le now.held now.bytes (omega (arith, few so_far, so_far.size)))
      (first_held now.bytes now.held);
}

-- after a byte that said nothing, and the plain bytes that follow it
went : {r : Reader} {bs : List ℕ} {i : ℕ} {now : Reader} {d : Decision} → Turn r bs i now d → d.outcome ≡ Nothing
    → (taken : Taken) (after : List ℕ) → {frame : List ℕ}
    → TakesIn d.mode d.held frame (take (length bs - (i + 1)) (drop (i + 1) bs)) taken after → frame ≡ stored_by d now
    → SoFar r bs (i + 1 + taken.used)
    (record { mode = d.mode; held = d.held + taken.count; bytes = after; escapes = now.escapes })
went {r} {bs} {i} t quiet taken after takes kept =
    let at = i + 1 in
    let rest : take (length bs - at) (drop at bs) ≡ drop at bs =
    take_all (length bs - at) (drop at bs) (omega (arith, length-drop at bs)) in
    takes_on taken after (goes_on t quiet) (rw (kept, rest) at takes)

-- after a verdict: the array is the one in which the byte was kept
ended : {r : Reader} {bs : List ℕ} {i : ℕ} {now : Reader} {d : Decision} → Turn r bs i now d
    → {frame : List ℕ} {used : ℕ} {said : Option Verdict} → Reads r bs (reader_by d now) used said → frame ≡ stored_by d now
    → Reads r bs (record { mode = d.mode; held = d.held; bytes = frame; escapes = now.escapes }) used said
ended t reads kept = rw kept reads

-- and after one on the whole frame
judged : {r : Reader} {bs : List ℕ} {i : ℕ} {now : Reader} {d : Decision} → Turn r bs i now d → d.outcome ≡ Judgement
    → {frame : List ℕ} {said : Option Verdict} → said ≡ said_of (judged_frame frame) → frame ≡ stored_by d now
    → Reads r bs (record { mode = d.mode; held = d.held; bytes = frame; escapes = now.escapes }) (i + 1) said
judged t outcome is kept = ended t (reads_judged t outcome _ (rw kept at is)) kept

pub loop-used-init : goal.loop-used-init
loop-used-init c =
    skipped_on _ c.args.bytes.now c.skipped-used.result c.requires.frame_len c.requires.frame_value c.skipped-used.ensures

pub bounds-frame-held : goal.bounds-frame-held
bounds-frame-held c =
    room (turn c.loop-used.invariant c.loop-used-test.true c.decide-decision.ensures) c.in-Some.byte c.in-Some.is

pub overflow_add-held : goal.overflow_add-held
overflow_add-held c =
    let t = turn c.loop-used.invariant c.loop-used-test.true c.decide-decision.ensures in
    let w = went t c.in-Nothing.is c.take-taken.result c.take-taken.new.frame c.take-taken.ensures (grind arith) in
    omega (arith, few w)

pub overflow_add-used-in-Nothing : goal.overflow_add-used-in-Nothing
overflow_add-used-in-Nothing c =
    let t = turn c.loop-used.invariant c.loop-used-test.true c.decide-decision.ensures in
    let w = went t c.in-Nothing.is c.take-taken.result c.take-taken.new.frame c.take-taken.ensures (grind arith) in
    omega (arith, w.within, c.well_formed)

pub loop-used-preserved : goal.loop-used-preserved
loop-used-preserved c =
    let t = turn c.loop-used.invariant c.loop-used-test.true c.decide-decision.ensures in
    went t c.in-Nothing.is c.take-taken.result c.take-taken.new.frame c.take-taken.ensures (grind arith)

pub returns-in-Number : goal.returns-in-Number
returns-in-Number c =
    let t = turn c.loop-used.invariant c.loop-used-test.true c.decide-decision.ensures in
    ended t (reads_number t c.in-Number.number c.in-Number.is _ c.plain-said.ensures) (grind arith)

pub returns-in-Judgement : goal.returns-in-Judgement
returns-in-Judgement c =
    let t = turn c.loop-used.invariant c.loop-used-test.true c.decide-decision.ensures in
    judged t c.in-Judgement.is c.judge-said.ensures (grind arith)

pub returns : goal.returns
returns c = reads_all c.loop-used.invariant c.loop-used-test.false
