-- Answers for `frames::take_plain`. Assumes nothing.
use Rattle.std.proofs.Common.{◌+◌, sym, ap, ◌∙◌, arith}
use Rattle.frames.proofs.Plainly.{takes_none, takes_narrow, takes_bad, takes_unknown, takes_all, takes_run}
use Rattle.frames.proofs.take_plain.Goals.{then-not-length_ok-via-then-not-length_ok, then-not-length_ok-via-else-not-length_ok+then-end-held}
use Rattle.frames.proofs.take_plain.Goals as goal

pub returns-then-frame-lt-MOST : goal.returns-then-frame-lt-MOST
returns-then-frame-lt-MOST c =
    let a = c.args in
    takes_none a.framing a.held a.frame.now a.bytes.now _ c.default.ensures
    (takes_narrow a.framing a.held a.frame.now a.bytes.now c.then-frame-lt-MOST.either)

pub returns-in_default : goal.returns-in_default
returns-in_default c =
    let a = c.args in
    takes_none a.framing a.held a.frame.now a.bytes.now _ c.default-in_default.ensures
    (takes_unknown a.framing a.held a.frame.now a.bytes.now c.in_default.ensures)

pub returns-then-not-length_ok : goal.returns-then-not-length_ok
returns-then-not-length_ok c =
    let a = c.args in
    takes_none a.framing a.held a.frame.now a.bytes.now _ c.default-then-not-length_ok.ensures
    (elim c.then-not-length_ok.branch [
      | then-not-length_ok-via-then-not-length_ok w ↦ takes_bad a.framing a.held a.frame.now a.bytes.now c.in-Some.length
          c.in-Some.ensures (sym c.length_ok.ensures ∙ w.if-not-length_ok.true)
      | then-not-length_ok-via-else-not-length_ok+then-end-held w ↦ takes_all a.framing a.held a.frame.now a.bytes.now
          c.in-Some.length c.if-held-gt-MOST.false c.if-frame-lt-MOST.false c.in-Some.ensures
          (sym c.length_ok.ensures ∙ w.if-not-length_ok.false) (omega (arith, w.if-end-held.true, c.beyond.ensures))
    ])

pub returns : goal.returns
returns c =
    let a = c.args in
    takes_run a.framing a.held a.frame.now a.bytes.now c.in-Some.length (c.in-Some.length + c.beyond.result) _ _ _
    (ap (λ b. c.in-Some.length + b) c.beyond.ensures) c.span-used.ensures c.if-held-gt-MOST.false c.if-frame-lt-MOST.false
    c.in-Some.ensures (sym c.length_ok.ensures ∙ c.if-not-length_ok.false) (omega (arith, c.if-end-held.false))
    c.run-count.ensures
