-- Each method's promise settles the place, and every byte of the lent buffer: two that meet the predicate that its
-- contract generates are equal. Assumes nothing.
use mathlib.Core.Path.{◌≡◌, sym, ◌∙◌}
use borrow.Fn.Kinds.{Dens, ended_of, res_t}
use contract.Lifetimes.{Lfts}
use denote.Triple.Clauses.{AtExit}
use Rattle.standard.proofs.Put.{put_settled}
use Rattle.puts.proofs.Out.new.Kinds as new-kinds
use Rattle.puts.proofs.Out.new.Reads as new
use Rattle.puts.proofs.Out.place.Kinds as place-kinds
use Rattle.puts.proofs.Out.place.Reads as place
use Rattle.puts.proofs.Out.part.Kinds as part-kinds
use Rattle.puts.proofs.Out.part.Reads as part
use Rattle.puts.proofs.Out.decimal.Kinds as decimal-kinds
use Rattle.puts.proofs.Out.decimal.Reads as decimal

pub new_unique : (κs : Lfts 1) (a : Dens κs new-kinds.ps) (e e' : AtExit (ended_of 1 new-kinds.ps new-kinds.r) κs)
    (x y : (res_t new-kinds.r κs).Denot) → new.Post κs a x e → new.Post κs a y e'
    → (x.place ≡ y.place) × (x.buffer.now ≡ y.buffer.now) × (x.buffer.ghost_name ≡ y.buffer.ghost_name)
new_unique κs a e e' x y p q = (p.1.1 ∙ sym q.1.1, p.1.0 ∙ sym q.1.0, p.0 ∙ sym q.0)

pub place_unique : (κs : Lfts 2) (a : Dens κs place-kinds.ps)
    (e e' : AtExit (ended_of 2 place-kinds.ps place-kinds.r) κs)
    (x y : (res_t place-kinds.r κs).Denot) → place.Post κs a x e → place.Post κs a y e' → x ≡ y
place_unique κs a e e' x y p q = p ∙ sym q

pub part_unique : (κs : Lfts 3) (a : Dens κs part-kinds.ps) (e e' : AtExit (ended_of 3 part-kinds.ps part-kinds.r) κs)
    (x y : (res_t part-kinds.r κs).Denot) → part.Post κs a x e → part.Post κs a y e'
    → (e.0.now.place ≡ e'.0.now.place) × (e.0.now.buffer.now ≡ e'.0.now.buffer.now)
    × (e.0.now.buffer.ghost_name ≡ e'.0.now.buffer.ghost_name)
part_unique κs a e e' x y p q =
    let s = put_settled p.put q.put in (s.0, s.1, p.same_reference ∙ sym q.same_reference)

pub decimal_unique : (κs : Lfts 2) (a : Dens κs decimal-kinds.ps)
    (e e' : AtExit (ended_of 2 decimal-kinds.ps decimal-kinds.r) κs)
    (x y : (res_t decimal-kinds.r κs).Denot) → decimal.Post κs a x e → decimal.Post κs a y e'
    → (e.0.now.place ≡ e'.0.now.place) × (e.0.now.buffer.now ≡ e'.0.now.buffer.now)
    × (e.0.now.buffer.ghost_name ≡ e'.0.now.buffer.ghost_name)
decimal_unique κs a e e' x y p q =
    let s = put_settled p.put q.put in (s.0, s.1, p.same_reference ∙ sym q.same_reference)
