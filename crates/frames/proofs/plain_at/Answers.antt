-- Answers for `frames::plain_at`. Assumes nothing.
use Rattle.std.proofs.Common.{◌*◌, length, ap, ◌∙◌, arith, rules}
use Rattle.std.specs.Prelude.{slice_get}
use Rattle.std.proofs.lemmas.Slice.{between_to_end}
use Rattle.standard.specs.declared.Framing.TheVariants.{Binary, Ascii}
use Rattle.frames.specs.Plain.{plain_of}
use Rattle.frames.proofs.Plainly.{first_standing}
use Rattle.frames.proofs.plain_at.Goals as goal

pub returns-in-Binary : goal.returns-in-Binary
returns-in-Binary c =
    let bytes = c.args.bytes.now in
    let rest = between_to_end bytes c.args.i (length bytes) (omega arith) in
    rw c.in-Binary.is
    (first_standing _ _ (c.copied.ensures ∙ c.first.ensures.value) c.filter.ensures (λ x b k. search rules)
    ∙ ap (λ l. slice_get (plain_of Binary l) 0) rest)

pub returns-in-Ascii : goal.returns-in-Ascii
returns-in-Ascii c =
    let bytes = c.args.bytes.now in
    let rest = between_to_end bytes (2 * c.args.i) (length bytes) (omega arith) in
    rw c.in-Ascii.is (c.pair.ensures ∙ ap (λ l. slice_get (plain_of Ascii l) 0) rest)
