-- Answers for `frames::judge_whole`: the sums first, then the message. Assumes nothing.
use Rattle.std.proofs.Common.{◌≡◌, ◌≢◌, ℕ, ◌+◌, cond, eqb, List, get_or, sym, ap, ◌∙◌, eq-eqb, ne_eqb}
use Rattle.std.specs.Prelude.{Some}
use Rattle.standard.proofs.Sheet.{number_not_0}
use Rattle.frames.specs.Judging.{judged_frame, said_of}
use Rattle.frames.specs.Parts.{Complete}
use Rattle.frames.proofs.Judges.{end, summed, checked, wrong_one, wrong_two, by_message, said_whole}
use Rattle.frames.proofs.judge_whole.Goals.{then-frame-end-via-then-frame-end, then-frame-end-via-else-frame-end+then-frame-end-2}
use Rattle.frames.proofs.judge_whole.Goals as goal

-- the verdict of a frame whose sums are right, with the length that a good message has
said : (frame : List ℕ) (number length : ℕ) → Complete frame → get_or frame (end frame) 0 ≡ (summed frame).one
    → get_or frame (end frame + 1) 0 ≡ (summed frame).two → number ≡ checked frame
    → cond (eqb (checked frame) 0) (get_or frame 0 0) 0 ≡ length
    → Some (record { number = number; type_byte = get_or frame 1 0; length = length }) ≡ said_of (judged_frame frame)
said frame number length w one two n e = rw (n, ← e) (ap Some (by_message frame w one two) ∙ said_whole frame w)

pub returns-then-frame-end : goal.returns-then-frame-end
returns-then-frame-end c =
    let f = c.args.frame.now in
    elim c.then-frame-end.branch [
      | then-frame-end-via-then-frame-end w ↦ c.plain.ensures
          ∙ ap Some (wrong_one f c.requires (rw (← c.sums_of-sums.ensures) w.if-frame-end.true)) ∙ said_whole f c.requires
      | then-frame-end-via-else-frame-end+then-frame-end-2 w ↦ c.plain.ensures
          ∙ ap Some
          (wrong_two f c.requires (rw (← c.sums_of-sums.ensures) w.if-frame-end.false)
          (rw (← c.sums_of-sums.ensures) w.if-frame-end-2.true))
          ∙ said_whole f c.requires
    ]

pub returns-in-Ok : goal.returns-in-Ok
returns-in-Ok c =
    let f = c.args.frame.now in
    let good : 0 ≡ checked f = c.in-Ok.ensures in
    said f 0 _ c.requires (rw (← c.sums_of-sums.ensures) c.if-frame-end.false)
    (rw (← c.sums_of-sums.ensures) c.if-frame-end-2.false)
    good (rw (eq-eqb (checked f) 0 (sym good)))

pub returns-in-Err : goal.returns-in-Err
returns-in-Err c =
    let f = c.args.frame.now in
    let number : c.number.result ≡ checked f = c.number.ensures ∙ c.in-Err.ensures in
    let bad : checked f ≢ 0 = λ e. number_not_0 c.in-Err.refusal (c.in-Err.ensures ∙ e) in
    said f _ 0 c.requires (rw (← c.sums_of-sums.ensures) c.if-frame-end.false)
    (rw (← c.sums_of-sums.ensures) c.if-frame-end-2.false)
    number (rw (ne_eqb (checked f) 0 bad))
