-- The frame stands up to the byte whose turn it is, and the sums are those of the length byte and of the bytes before.
use Rattle.std.proofs.Common.{◌≡◌, ◌∷◌, length, take}
use Rattle.standard.specs.Words.{Put}
use Rattle.standard.specs.Sums.{sums_of}
use Rattle.writer.proofs.Pieces.{to_byte}
use Rattle.writer.proofs.Frame.put.Given as goal

abbrev pub invariant-loop-b : goal.invariant-loop-b
invariant-loop-b l =
    let m = l.self.message.now in
    record {
      stands : Put l.fn.out 0 (to_byte l.self.framing m l.b-index) l.out l.next;
      sums : l.sums ≡ sums_of (length m ∷ take l.b-index m);
    }
