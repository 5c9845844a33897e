-- The promise of `reply` settles its answer: two that meet the predicate that its contract generates are equal.
-- Assumes nothing.
use mathlib.Core.Path.{◌≡◌, sym, ◌∙◌}
use borrow.Fn.Kinds.{Dens, ended_of, res_t}
use contract.Lifetimes.{Lfts}
use denote.Triple.Clauses.{AtExit}
use Rattle.standard.proofs.Replies.{reply_one}
use Rattle.replies.proofs.reply.Kinds.{ps, r}
use Rattle.replies.proofs.reply.Reads.{Post}

pub reply_unique : (κs : Lfts 0) (a : Dens κs ps) (e : AtExit (ended_of 0 ps r) κs) (x y : (res_t r κs).Denot)
    → Post κs a x e → Post κs a y e → x ≡ y
reply_unique κs a e x y p q = reply_one (p ∙ sym q)
