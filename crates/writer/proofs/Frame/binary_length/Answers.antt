-- No turn adds more than two, so that the size fits; what it comes to is the frame's length, piece by piece. Assumes
-- nothing.
use Rattle.std.proofs.Common.{ℕ, List, ◌≤◌, length, take_all, ap, ◌∙◌, arith}
use Rattle.standard.specs.declared.Framing.TheVariants.{Binary}
use Rattle.standard.specs.declared.Sums.{Sums}
use Rattle.standard.specs.Framing.{coded, coding}
use Rattle.writer.proofs.Pieces.{coding_none, length_more, pieces_length, sums_first, sums_loop, sums_whole}
use Rattle.writer.proofs.Frame.binary_length.Goals as goal

pub loop-b-init : goal.loop-b-init
loop-b-init c =
    let none = ap (λ (l : List ℕ). length l) (coding_none Binary) in
    record {
      small = omega (arith, c.stuffed_length-size.ensures.upper_bound);
      size = omega (arith, none, c.stuffed_length-size.ensures.value);
      sums = c.with-sums.ensures ∙ sums_first _;
    }

pub loop-b-preserved : goal.loop-b-preserved
loop-b-preserved c =
    let l = c.loop-b in
    let m = c.args.self.now.message.now in
    let more = length_more Binary m l.b-index c.loop-b-test.true in
    record {
      small = omega (arith, l.invariant.small, c.stuffed_length-size-in-loop-b.ensures.upper_bound);
      size = omega (arith, more, l.invariant.size, c.stuffed_length-size-in-loop-b.ensures.value);
      sums = sums_loop m l.b-index c.loop-b-test.true c.with-sums-in-loop-b.ensures l.invariant.sums;
    }

pub returns : goal.returns
returns c =
    let l = c.loop-b in
    let m = c.args.self.now.message.now in
    let over : length m ≤ l.b-index = omega arith in
    let sums = sums_whole m l.b-index over l.invariant.sums in
    let message = ap (λ t. length (coding Binary t)) (take_all l.b-index m over) in
    let one = ap (λ (s : Sums). length (coded Binary s.one)) sums in
    let two = ap (λ (s : Sums). length (coded Binary s.two)) sums in
    let all = pieces_length Binary m in
    omega (arith, l.invariant.size, message, one, two, all, c.stuffed_length.ensures.value, c.stuffed_length-2.ensures.value)
