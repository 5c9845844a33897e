-- The message is laid over the zeros, and the flag is set in its first byte. Assumes nothing.
use Rattle.std.proofs.Common.{◌≡◌, refl, ap, ◌∙◌, ◌+◌, ◌<◌, ◌≤◌, ◌++◌, ℕ, List, length, slice_index_or, slice_set, bit_or, arith}
use lib.ListN.{drop, replicate}
use Rattle.standard.proofs.Put.{copied_to, put_laid}
use Rattle.commands.specs.Commands.{longest_command, padded}
use Rattle.commands.proofs.Flag.{flag_bit}
use Rattle.commands.proofs.with_flag.Goals as goal

pub returns : goal.returns
returns c =
    let m = c.args.message.now in
    let zeros : List ℕ = replicate longest_command 0 in
    let fit : 0 + length m ≤ length zeros = omega arith in
    let out : c.copy_from_slice.new.self ++ drop (length m) zeros ≡ padded m =
    put_laid (copied_to 0 (length m) m zeros fit refl c.copy_from_slice.ensures.after) fit in
    let byte : slice_index_or m 0 0 < 256 = omega (arith, c.type_inv.message 0) in
    ap (λ (l : List ℕ). slice_set l 0 (bit_or (slice_index_or l 0 0) 128)) out ∙ flag_bit m c.requires.in_bounds byte
