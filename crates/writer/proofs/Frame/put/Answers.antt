-- Start, length, message, sums and stop stand one after the other, and each fits behind those before it. Assumes nothing.
use Rattle.std.proofs.Common.{◌∙◌, arith, length-set}
use Rattle.standard.specs.Framing.{stop_of, coded}
use Rattle.standard.proofs.Put.{put_then}
use Rattle.writer.proofs.Pieces as pieces
use Rattle.writer.proofs.Pieces.{sums_first, next_fits, length_stands, byte_stands, message_stands, sums_whole, sums_loop}
use Rattle.writer.proofs.Frame.put.Goals as goal

pub bounds-out-0 : goal.bounds-out-0
bounds-out-0 c =
    let s = c.args.self.now in
    let room = (pieces.pieces_fit s.framing s.message.now _ c.requires).size in
    omega (arith, room)

pub put_coded-next-requires : goal.put_coded-next-requires
put_coded-next-requires c =
    let s = c.args.self.now in
    let room = (pieces.pieces_fit s.framing s.message.now _ c.requires).size in
    simp length-set (omega (arith, room))

pub loop-b-init : goal.loop-b-init
loop-b-init c =
    let s = c.args.self.now in
    record {
      stands = length_stands s.framing s.message.now c.start_of.ensures c.put_coded-next.ensures;
      sums = c.with-sums.ensures ∙ sums_first _;
    }

pub put_coded-next-requires-in-loop-b : goal.put_coded-next-requires-in-loop-b
put_coded-next-requires-in-loop-b c =
    let s = c.args.self.now in
    let room = (pieces.pieces_fit s.framing s.message.now _ c.requires).byte c.loop-b.b-index c.loop-b-test.true in
    next_fits (coded s.framing _) c.loop-b.invariant.stands room

pub loop-b-preserved : goal.loop-b-preserved
loop-b-preserved c =
    let s = c.args.self.now in
    let l = c.loop-b in
    let more = c.loop-b-test.true in
    record {
      stands = byte_stands s.framing s.message.now l.b-index more l.invariant.stands c.put_coded-next-in-loop-b.ensures;
      sums = sums_loop s.message.now l.b-index more c.with-sums-in-loop-b.ensures l.invariant.sums;
    }

pub put_coded-next-requires-2 : goal.put_coded-next-requires-2
put_coded-next-requires-2 c =
    let f = c.args.self.now.framing in
    let m = c.args.self.now.message.now in
    let l = c.loop-b in
    let sums = sums_whole m l.b-index (omega arith) l.invariant.sums in
    let message = message_stands f m l.b-index (omega arith) l.invariant.stands in
    rw sums (next_fits (coded f (pieces.one f m)) message (pieces.pieces_fit f m _ c.requires).sum1)

pub put_coded-next-requires-3 : goal.put_coded-next-requires-3
put_coded-next-requires-3 c =
    let f = c.args.self.now.framing in
    let m = c.args.self.now.message.now in
    let l = c.loop-b in
    let sums = sums_whole m l.b-index (omega arith) l.invariant.sums in
    let message = message_stands f m l.b-index (omega arith) l.invariant.stands in
    let one = put_then message (rw sums at c.put_coded-next-2.ensures) in
    rw sums (next_fits (coded f (pieces.two f m)) one (pieces.pieces_fit f m _ c.requires).sum2)

pub put_stop-requires : goal.put_stop-requires
put_stop-requires c =
    let f = c.args.self.now.framing in
    let m = c.args.self.now.message.now in
    let l = c.loop-b in
    let sums = sums_whole m l.b-index (omega arith) l.invariant.sums in
    let message = message_stands f m l.b-index (omega arith) l.invariant.stands in
    let one = put_then message (rw sums at c.put_coded-next-2.ensures) in
    let two = put_then one (rw sums at c.put_coded-next-3.ensures) in
    next_fits (stop_of f) two (pieces.pieces_fit f m _ c.requires).stop

pub returns : goal.returns
returns c =
    let f = c.args.self.now.framing in
    let m = c.args.self.now.message.now in
    let l = c.loop-b in
    let sums = sums_whole m l.b-index (omega arith) l.invariant.sums in
    let message = message_stands f m l.b-index (omega arith) l.invariant.stands in
    let one = put_then message (rw sums at c.put_coded-next-2.ensures) in
    let two = put_then one (rw sums at c.put_coded-next-3.ensures) in
    rw (← pieces.pieces f m) (put_then two c.put_stop.ensures)
