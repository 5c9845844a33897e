-- A read is the stream stepped through up to the first verdict. Assumes nothing.
use Prim.Native.Nat.{ℕ, zero, suc, ◌≤◌, ◌<◌}
use native.Mathlib.Omega.{arith}
use mathlib.Core.Path.{◌≡◌, refl, ap}
use mathlib.Core.List.{List, [], ◌∷◌, cons≢nil}
use lib.ListN.{length, take}
use Rattle.standard.specs.declared.Escapes.{Escapes}
use Rattle.standard.specs.Judge.{Handed}
use Rattle.reader.specs.Step.{State, step_of}
use Rattle.reader.specs.Read.{Read, read_on, scan_of}
use Rattle.reader.proofs.State.Kept.{Hands, keeps_step}
use Rattle.reader.proofs.Stream.Parts.{run, after}

-- what a read of bs says of the stream stepped through
pub record Scanned (rule : Escapes) (s : State) (bs : List ℕ) (r : Read) : Type 0 where
  pub within : r.used ≤ length bs
  pub here : run rule s (take r.used bs) ≡ r.said
  pub goes_to : after rule s (take r.used bs) ≡ r.next
  pub none_sooner : (k : ℕ) → k < r.used → run rule s (take k bs) ≡ []
  pub or_all : r.said ≡ [] → r.used ≡ length bs

scan_on : (rule : Escapes) (s : State) (b : ℕ) (bs : List ℕ) (o : List Handed) → (step_of rule s b).said ≡ o
    → Hands o (step_of rule s b).kept
    → (later : Read)
    → Scanned rule (step_of rule s b).next bs later → Scanned rule s (b ∷ bs) (read_on o (step_of rule s b) later)
scan_on rule s b bs [] e h later w = record {
  within = omega (arith, w.within);
  here = rw e w.here;
  goes_to = w.goes_to;
  none_sooner = sooner;
  or_all = λ q. ap suc (w.or_all q);
}
  where
    sooner : (k : ℕ) → k < suc later.used → run rule s (take k (b ∷ bs)) ≡ []
    sooner zero l = refl
    sooner (suc k) l = rw e (w.none_sooner k (omega arith))
scan_on rule s b bs (h ∷ []) e k later w = record {
  within = omega arith;
  here = rw e;
  goes_to = refl;
  none_sooner = sooner;
  or_all = λ q. absurd (cons≢nil q);
}
  where
    sooner : (k : ℕ) → k < 1 → run rule s (take k (b ∷ bs)) ≡ []
    sooner zero l = refl
    sooner (suc k) l = absurd (omega arith)
scan_on rule s b bs (h ∷ g ∷ hs) e k later w = absurd k

pub scanned : (rule : Escapes) (s : State) (bs : List ℕ) → Scanned rule s bs (scan_of rule s bs)
unfolding scan_of
scanned rule s [] = record {
  within = omega arith;
  here = refl;
  goes_to = refl;
  none_sooner = λ k l. absurd (omega arith);
  or_all = λ q. refl;
}
scanned rule s (b ∷ bs) =
    let t = step_of rule s b in
    scan_on rule s b bs t.said refl (keeps_step rule s b).0.hands (scan_of rule t.next bs)
    (scanned rule t.next bs)
