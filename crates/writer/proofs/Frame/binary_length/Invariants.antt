-- The size is that of the length byte and of the bytes passed, and the sums are theirs.
use Rattle.std.proofs.Common.{◌≡◌, ◌+◌, ◌*◌, ◌≤◌, ◌∷◌, length, take}
use Rattle.standard.specs.declared.Framing.TheVariants.{Binary}
use Rattle.standard.specs.Sums.{sums_of}
use Rattle.standard.specs.Framing.{coded, coding}
use Rattle.writer.proofs.Frame.binary_length.Given as goal

abbrev pub invariant-loop-b : goal.invariant-loop-b
invariant-loop-b l =
    let m = l.self.message.now in
    record {
      small : l.size ≤ 2 * l.b-index + 2;
      size : l.size ≡ length (coded Binary (length m)) + length (coding Binary (take l.b-index m));
      sums : l.sums ≡ sums_of (length m ∷ take l.b-index m);
    }
