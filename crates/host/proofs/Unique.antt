-- Two answers that meet the contract of `listen` are equal, and leave the frame's bytes and the table alike; and two
-- that meet that of `hear`. Assumes nothing.
use Prim.Native.Nat.{ℕ}
use mathlib.Core.Path.{◌≡◌, sym, ap, ap₂, ◌∙◌}
use mathlib.Core.List.{List}
use borrow.Fn.Kinds.{Dens, ended_of, res_t}
use contract.Lifetimes.{Lfts}
use denote.Triple.Clauses.{AtExit}
use Rattle.standard.specs.declared.Escapes.{Escapes}
use Rattle.std.specs.Prelude.{Option}
use Rattle.standard.specs.declared.Verdict.{Verdict}
use Rattle.standard.specs.declared.Reply.{Reply}
use Rattle.standard.proofs.Stream.{verdicts_same}
use Rattle.standard.proofs.Replies.{reply_one}
use Rattle.reader.specs.declared.Reader.{Reader}
use Rattle.host.specs.declared.Hearing.{Hearing}
use Rattle.host.specs.declared.Listened.{Listened}
use Rattle.host.specs.Hear.{Hears}
use Rattle.host.proofs.listen.Kinds as listen-kinds
use Rattle.host.proofs.listen.Reads as listen
use Rattle.host.proofs.hear.Kinds as hear-kinds
use Rattle.host.proofs.hear.Reads as hear

-- what is read, and what is told of it
record Taken : Type 0 where
  reader : Reader
  used : ℕ

abbrev taken : Reader → ℕ → Taken
taken reader used = record { reader = reader; used = used }

record Told : Type 0 where
  said : Option Verdict
  reply : Reply

abbrev told : Option Verdict → Reply → Told
told said reply = record { said = said; reply = reply }

abbrev hearing : Taken → Told → Hearing
hearing r t = record { reader = r.reader; used = r.used; said = t.said; reply = t.reply }

one : (r : Reader) (t bs : List ℕ) (x y : Hearing) (after other : List ℕ)
    → Hears r t bs x.reader x.used x.said x.reply after
    → Hears r t bs y.reader y.used y.said y.reply other → (x ≡ y) × (after ≡ other)
one r t bs x y after other p q =
    let said = verdicts_same x.said y.said (p.gives.verdict ∙ sym q.gives.verdict) in
    let reply = reply_one {a = x.reply} {b = y.reply} (p.replies ∙ sym q.replies) in (
      ap₂ hearing (ap₂ taken (p.gives.next ∙ sym q.gives.next) (p.uses ∙ sym q.uses)) (ap₂ told said reply),
      p.leaves ∙ sym q.leaves,
    )

pub hear_unique : (κs : Lfts 2) (a : Dens κs hear-kinds.ps) (e e' : AtExit (ended_of 2 hear-kinds.ps hear-kinds.r) κs)
    (x y : (res_t hear-kinds.r κs).Denot) → hear.Post κs a x e → hear.Post κs a y e'
    → (x ≡ y) × (e.1.0.now ≡ e'.1.0.now)
hear_unique κs a e e' x y p q = one _ _ _ x y e.1.0.now e'.1.0.now p q

-- the answer of `listen` with the frame's bytes, as that of `hear`
abbrev as_hearing : Escapes → Listened → List ℕ → Hearing
as_hearing rule l frame = record {
  reader = record { mode = l.mode; held = l.held; bytes = frame; escapes = rule };
  used = l.used;
  said = l.said;
  reply = l.reply;
}

abbrev as_listened : Hearing → Listened
as_listened h = record {
  mode = h.reader.mode;
  held = h.reader.held;
  used = h.used;
  said = h.said;
  reply = h.reply;
}

pub listen_unique : (κs : Lfts 3) (a : Dens κs listen-kinds.ps)
    (e e' : AtExit (ended_of 3 listen-kinds.ps listen-kinds.r) κs) (x y : (res_t listen-kinds.r κs).Denot)
    → listen.Post κs a x e → listen.Post κs a y e'
    → (x ≡ y) × (e.1.1.1.0.now ≡ e'.1.1.1.0.now) × (e.1.1.1.1.0.now ≡ e'.1.1.1.1.0.now)
listen_unique κs a e e' x y p q =
    let rule = a.0 in
    let frame = e.1.1.1.0.now in
    let frame' = e'.1.1.1.0.now in
    let same =
    one _ _ _ (as_hearing rule x frame) (as_hearing rule y frame') e.1.1.1.1.0.now e'.1.1.1.1.0.now p q in
    (ap as_listened same.0, ap (λ (h : Hearing). h.reader.bytes) same.0, same.1)
