-- Exactly one answer meets each public function's promise: the reader with every byte of its array, the verdict and the
-- used bytes. Each theorem is over the predicate that the function's own contract makes, so that a weaker contract
-- breaks it. Assumes nothing.
use Prim.Native.Nat.{ℕ}
use mathlib.Core.Path.{◌≡◌, refl, sym, ap, ap₂, ◌∙◌}
use mathlib.Core.List.{List, [], ◌∷◌}
use borrow.Fn.Kinds.{Dens, ended_of, res_t}
use contract.Lifetimes.{Lfts}
use denote.Triple.Clauses.{AtExit}
use Rattle.std.specs.Prelude.{Option}
use Rattle.standard.specs.declared.Verdict.{Verdict}
use Rattle.standard.proofs.Stream.{verdicts_same}
use Rattle.reader.specs.declared.Reader.{Reader}
use Rattle.reader.specs.declared.Stepped.{Stepped}
use Rattle.reader.specs.declared.Reading.{Reading}
use Rattle.reader.specs.declared.Scanned.{Scanned}
use Rattle.reader.specs.Read.{Given, read_of, Gives, Reads, Steps}
use Rattle.reader.proofs.State.Handing.{said_for, one_verdict, handed_from_verdict}
use Rattle.reader.proofs.Reader.fresh.Kinds as fresh-kinds
use Rattle.reader.proofs.Reader.fresh.Reads as fresh
use Rattle.reader.proofs.Reader.fresh_lenient.Kinds as lenient-kinds
use Rattle.reader.proofs.Reader.fresh_lenient.Reads as lenient
use Rattle.reader.proofs.Reader.sound.Kinds as sound-kinds
use Rattle.reader.proofs.Reader.sound.Reads as sound
use Rattle.reader.proofs.Reader.step.Kinds as step-kinds
use Rattle.reader.proofs.Reader.step.Reads as step
use Rattle.reader.proofs.read.Kinds as read-kinds
use Rattle.reader.proofs.read.Reads as read
use Rattle.reader.proofs.scan.Kinds as scan-kinds
use Rattle.reader.proofs.scan.Reads as scan

-- ---- not two

pub fresh_unique : (κs : Lfts 0) (a : Dens κs fresh-kinds.ps) (e : AtExit (ended_of 0 fresh-kinds.ps fresh-kinds.r) κs)
    (x y : (res_t fresh-kinds.r κs).Denot) → fresh.Post κs a x e → fresh.Post κs a y e → x ≡ y
fresh_unique κs a e x y p q = p ∙ sym q

pub fresh_lenient_unique : (κs : Lfts 0) (a : Dens κs lenient-kinds.ps)
    (e : AtExit (ended_of 0 lenient-kinds.ps lenient-kinds.r) κs)
    (x y : (res_t lenient-kinds.r κs).Denot) → lenient.Post κs a x e → lenient.Post κs a y e → x ≡ y
fresh_lenient_unique κs a e x y p q = p ∙ sym q

pub sound_unique : (κs : Lfts 0) (a : Dens κs sound-kinds.ps) (e : AtExit (ended_of 0 sound-kinds.ps sound-kinds.r) κs)
    (x y : (res_t sound-kinds.r κs).Denot) → sound.Post κs a x e → sound.Post κs a y e → x ≡ y
sound_unique κs a e x y p q = p ∙ sym q

-- two readers and verdicts that are both given are the same
record Same (r₁ r₂ : Reader) (s₁ s₂ : Option Verdict) : Type 0 where
  reader : r₁ ≡ r₂
  said : s₁ ≡ s₂

gives_same : {a : Given} {r₁ r₂ : Reader} {s₁ s₂ : Option Verdict} → Gives r₁ s₁ a → Gives r₂ s₂ a → Same r₁ r₂ s₁ s₂
gives_same {a} {r₁} {r₂} {s₁} {s₂} p q = record {
  reader = p.next ∙ sym q.next;
  said = verdicts_same s₁ s₂ (p.verdict ∙ sym q.verdict);
}

abbrev stepped : Reader → Option Verdict → Stepped
stepped reader said = record { reader = reader; said = said }

pub step_unique : (κs : Lfts 0) (a : Dens κs step-kinds.ps) (e : AtExit (ended_of 0 step-kinds.ps step-kinds.r) κs)
    (x y : (res_t step-kinds.r κs).Denot) → step.Post κs a x e → step.Post κs a y e → x ≡ y
step_unique κs a e x y p q = let same = gives_same p q in ap₂ stepped same.reader same.said

abbrev reading : Stepped → ℕ → Reading
reading s used = record { reader = s.reader; used = used; said = s.said }

pub read_unique : (κs : Lfts 1) (a : Dens κs read-kinds.ps) (e : AtExit (ended_of 1 read-kinds.ps read-kinds.r) κs)
    (x y : (res_t read-kinds.r κs).Denot) → read.Post κs a x e → read.Post κs a y e → x ≡ y
read_unique κs a e x y p q =
    let same = gives_same p.gives q.gives in
    ap₂ reading (ap₂ stepped same.reader same.said) (p.uses ∙ sym q.uses)

-- a scan's reader has its bytes in lent memory: they are settled too
abbrev scanned : Stepped → ℕ → Scanned
scanned s used = record { mode = s.reader.mode; held = s.reader.held; used = used; said = s.said }

pub scan_unique : (κs : Lfts 2) (a : Dens κs scan-kinds.ps) (e e' : AtExit (ended_of 2 scan-kinds.ps scan-kinds.r) κs)
    (x y : (res_t scan-kinds.r κs).Denot) → scan.Post κs a x e → scan.Post κs a y e'
    → (x ≡ y) × (e.1.1.1.0.now ≡ e'.1.1.1.0.now)
scan_unique κs a e e' x y p q =
    let same = gives_same p.gives q.gives in (
      ap₂ scanned (ap₂ stepped same.reader same.said) (p.uses ∙ sym q.uses),
      ap (λ (r : Reader). r.bytes) same.reader,
    )

-- ---- but one

gives_some : (r : Reader) (bs : List ℕ) → Gives (read_of r bs).reader (said_for (read_of r bs).said) (read_of r bs)
gives_some r bs =
    let a = read_of r bs in
    let v = one_verdict r bs in
    record { next = refl; verdict = v; handed = handed_from_verdict r bs a.reader (said_for a.said) v refl }

pub step_some : (r : Reader) (b : ℕ) → (x : Stepped) × Steps r b x.reader x.said
step_some r b = (stepped (read_of r (b ∷ [])).reader (said_for (read_of r (b ∷ [])).said), gives_some r (b ∷ []))

pub read_some : (r : Reader) (bs : List ℕ) → (x : Reading) × Reads r bs x.reader x.used x.said
read_some r bs = (
  reading (stepped (read_of r bs).reader (said_for (read_of r bs).said)) (read_of r bs).used,
  record { gives = gives_some r bs; uses = refl },
)
