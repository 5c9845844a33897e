-- Both refusals are the definition's, and the frame is put into the part that is lent. Assumes nothing.
use Rattle.std.proofs.Common.{◌≡◌, ◌+◌, ◌-◌, ◌≤◌, Err, length, sym, ap, ◌∙◌, rules, arith}
use borrow.Rule.Slice.PartMut.{put_mid}
use Rattle.standard.specs.Messages.{check_of}
use Rattle.standard.specs.Framing.{frame_of}
use Rattle.standard.proofs.Sheet.{number_not_0}
use Rattle.standard.proofs.Put.{mid_laid}
use Rattle.writer.proofs.Fit.{fit}
use Rattle.writer.proofs.Answers.{first_refusal, last_refusal, told_refused, told_written}
use Rattle.writer.proofs.write.Goals as goal

pub returns-in_err-check : goal.returns-in_err-check
returns-in_err-check c =
    let a = c.args in
    let refusal = c.in_err-check.field-0.0 in
    let said : c.from_residual.result ≡ Err refusal = search rules in
    let bad = number_not_0 refusal in
    let first = first_refusal a.message.now a.framing a.out.now a.place (λ e. bad (c.in_err-check.ensures ∙ e)) in
    rw said (told_refused a.message.now a.framing a.out.now a.place _ (first ∙ sym c.in_err-check.ensures) bad)

pub returns-in_err-check_room : goal.returns-in_err-check_room
returns-in_err-check_room c =
    let a = c.args in
    let refusal = c.in_err-check_room.field-0.0 in
    let said : c.from_residual-in_err-check_room.result ≡ Err refusal = search rules in
    let good : check_of a.message.now ≡ 0 = sym c.in_ok-check.ensures in
    let told = last_refusal a.message.now a.framing a.out.now a.place good ∙ sym c.in_err-check_room.ensures in
    rw said (told_refused a.message.now a.framing a.out.now a.place _ told (number_not_0 refusal))

pub returns : goal.returns
returns c =
    let a = c.args in
    let m = a.message.now in
    let out = a.out.now in
    let told = last_refusal m a.framing out a.place (sym c.in_ok-check.ensures) ∙ sym c.in_ok-check_room.ensures in
    let frame = frame_of a.framing m in
    let room = fit (length frame) a.place (length out) (sym c.in_ok-check_room.ensures) in
    let h : a.place + length frame ≤ length out = omega (arith, room.0, room.1) in
    told_written m a.framing out a.place _ _ told (c.put.ensures.end ∙ omega arith)
    (ap (put_mid a.place (length out - a.place) out) c.put.ensures.bytes ∙ mid_laid a.place frame out h)
