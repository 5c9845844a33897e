-- What stays in the reader's array: the bytes held begin the bytes kept, a message handed out stands there, and a
-- frame's bytes are not lost while it is open. Assumes nothing.
use Prim.Native.Nat.{ℕ, ◌+◌, ◌≤◌}
use native.Mathlib.Nat.{le_refl, le_trans}
use native.Mathlib.Omega.{arith}
use mathlib.Core.Path.{◌≡◌, refl, sym, ◌∙◌}
use mathlib.Core.Logic.{◌⊎◌, inl, inr}
use mathlib.Core.Bool.{true, false, false≢true}
use mathlib.Core.List.{List, [], ◌∷◌, cons≢nil}
use lib.Dec.{eqb}
use lib.ListN.{length}
use Rattle.standard.specs.declared.Escapes.{Escapes}
use Rattle.standard.specs.Messages.{longest}
use Rattle.standard.specs.Framing.{start_of}
use Rattle.standard.specs.Judge.{Handed, handing}
use Rattle.standard.proofs.Refusals.{of_the_stream, up_to_8}
use Rattle.reader.specs.declared.Mode.{Mode}
use Rattle.reader.specs.declared.Mode.TheVariants.{Skipping}
use Rattle.reader.specs.Step.{State, Step, framing_of, is_open, cut_short, opens, goes_on, step_of}
use Rattle.reader.specs.Read.{Read, read_on, scan_of}
use Rattle.reader.proofs.State.Soundness.{Fits, few_held}
use Rattle.reader.proofs.Part.Frames.{by_test, Stands}
use Rattle.reader.proofs.Part.Judging.{Does, skips, on, over}
use Rattle.reader.proofs.Part.OneByte.{does, cut_is}

-- at most one verdict, whose message stands in the bytes kept
abbrev pub Hands : List Handed → List ℕ → Type 0
Hands [] kept = Unit {0}
Hands (h ∷ []) kept = Stands h.message kept
Hands (h ∷ g ∷ hs) kept = ⊥

-- of verdicts 0 to 8, and by the strict rule 15
abbrev pub Sheet : Escapes → List Handed → Type 0
Sheet rule [] = Unit {0}
Sheet rule (h ∷ hs) = of_the_stream rule h.verdict ≡ true

-- of a step or a read from s
pub record Kept (rule : Escapes) (s next : State) (said : List Handed) (kept : List ℕ) : Type 0 where
  pub begins : (next.held ≡ []) ⊎ (next.held ≡ kept)
  pub hands : Hands said kept
  pub sheet : Sheet rule said
  pub fits : Fits s.mode s.held → Fits next.mode next.held
  pub few : Fits s.mode s.held → length kept ≤ longest + 3
  pub longer : is_open s.mode ≡ true → length s.held ≤ length kept

-- of a step that says nothing: the bytes that were held stay, or a frame is open
pub record Quiet (s next : State) : Type 0 where
  pub stays : (next.held ≡ s.held) ⊎ (is_open next.mode ≡ true)
  pub open_on : is_open s.mode ≡ true → (is_open next.mode ≡ true) × (length s.held ≤ length next.held)

-- ---- one byte

abbrev Keeps : Escapes → State → Step → Type 0
Keeps rule s t = Kept rule s t.next t.said t.kept × (t.said ≡ [] → Quiet s t.next)

does_keep : {rule : Escapes} {m : Mode} {held : List ℕ} {b : ℕ} {t : Step} → Does rule m held b t
    → Keeps rule (record { mode = m; held = held }) t
does_keep (skips {f} {held} {b}) = (
  record {
    begins = inr refl;
    hands = tt;
    sheet = tt;
    fits = λ k. k;
    few = few_held (Skipping f) held;
    longer = λ o. absurd (false≢true o);
  },
  λ e. record { stays = inl refl; open_on = λ o. absurd (false≢true o) },
)
does_keep (on {m} {m'} {held} {held'} x) = (
  record {
    begins = inr refl;
    hands = tt;
    sheet = tt;
    fits = x.fits;
    few = λ k. few_held m' held' (x.fits k);
    longer = λ o. x.grown;
  },
  λ e. record { stays = inr x.is; open_on = λ o. (x.is, x.grown) },
)
does_keep (over x) = (
  record {
    begins = inl refl;
    hands = x.stands;
    sheet = x.sheet;
    fits = λ k. (tt, refl);
    few = x.few;
    longer = λ o. x.grown;
  },
  λ e. absurd (cons≢nil e),
)

-- what a start byte hands out
by_cut : (P : List Handed → Type 0) (m : Mode) → (is_open m ≡ true → P (handing 1 [] ∷ [])) → (is_open m ≡ false → P [])
    → P (cut_short m)
by_cut P m cut none = rw (cut_is m) (by_test P (is_open m) (handing 1 [] ∷ []) [] cut none)

cut_loud : (m : Mode) → cut_short m ≡ [] → is_open m ≡ true → ⊥
cut_loud m = by_cut (λ l. l ≡ [] → is_open m ≡ true → ⊥) m (λ o e p. cons≢nil e) (λ n e p. false≢true (sym n ∙ p))

pub keeps_step : (rule : Escapes) (s : State) (b : ℕ) → Keeps rule s (step_of rule s b)
unfolding step_of
keeps_step rule s b =
    by_test (Keeps rule s) (eqb b (start_of (framing_of s.mode))) (opens s) (goes_on rule s.mode s.held b)
    (λ e. (
      record {
        begins = inl refl;
        hands = by_cut (λ l. Hands l s.held) s.mode (λ o more. refl) (λ o. tt);
        sheet = by_cut (Sheet rule) s.mode (λ o. up_to_8 rule (omega arith)) (λ o. tt);
        fits = λ k. (tt, refl);
        few = few_held s.mode s.held;
        longer = λ o. le_refl (length s.held);
      },
      λ q. record { stays = inr refl; open_on = λ o. absurd (cut_loud s.mode q o) },
    ))
    (λ e. does_keep (does rule s.mode s.held b))

-- what soundness says stays at every byte
pub fits_step : (rule : Escapes) (s : State) (b : ℕ) → Fits s.mode s.held
    → Fits (step_of rule s b).next.mode (step_of rule s b).next.held
fits_step rule s b = (keeps_step rule s b).0.fits

-- ---- a read

keeps_on : (rule : Escapes) (s : State) (o : List Handed) (first : Step) (later : Read)
    → Kept rule s first.next o first.kept
    → (o ≡ [] → Quiet s first.next)
    → Kept rule first.next later.next later.said later.kept
    → Kept rule s (read_on o first later).next (read_on o first later).said (read_on o first later).kept
keeps_on rule s [] first later k q w = record {
  begins = w.begins;
  hands = w.hands;
  sheet = w.sheet;
  fits = λ x. w.fits (k.fits x);
  few = λ x. w.few (k.fits x);
  longer = λ o. let y = (q refl).open_on o in le_trans y.1 (w.longer y.0);
}
keeps_on rule s (h ∷ []) first later k q w = k
keeps_on rule s (h ∷ g ∷ hs) first later k q w = absurd k.hands

pub keeps_scan : (rule : Escapes) (s : State) (bs : List ℕ)
    → Kept rule s (scan_of rule s bs).next (scan_of rule s bs).said (scan_of rule s bs).kept
unfolding scan_of
keeps_scan rule s [] = record {
  begins = inr refl;
  hands = tt;
  sheet = tt;
  fits = λ k. k;
  few = few_held s.mode s.held;
  longer = λ o. le_refl (length s.held);
}
keeps_scan rule s (b ∷ bs) =
    let t = step_of rule s b in
    keeps_on rule s t.said t (scan_of rule t.next bs) (keeps_step rule s b).0 (keeps_step rule s b).1
    (keeps_scan rule t.next bs)
