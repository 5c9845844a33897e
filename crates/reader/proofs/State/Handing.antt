-- A read says at most one verdict, and its message stands in the reader's array: so that what is handed out follows
-- from the verdict and the reader, whatever the reader was. Assumes nothing.
use Prim.Native.Nat.{ℕ, zero, suc, ◌+◌}
use mathlib.Core.Path.{◌≡◌, refl, ap, ◌∙◌}
use mathlib.Core.Bool.{Bool, true, false}
use mathlib.Core.List.{List, [], ◌∷◌, map, cons≢nil, nil≢cons, head-eq_of_cons-eq}
use lib.ListN.{length, get_or, drop, replicate}
use Rattle.std.specs.Prelude.{Option}
use Rattle.standard.specs.declared.Framing.{Framing}
use Rattle.standard.specs.declared.Escapes.{Escapes}
use Rattle.standard.specs.declared.Verdict.{Verdict}
use Rattle.std.specs.Prelude.{Some, None}
use Rattle.standard.specs.Words.{laid}
use Rattle.standard.specs.Messages.{longest}
use Rattle.standard.specs.Judge.{Handed, verdict_for, verdicts_in, handed_in}
use Rattle.standard.proofs.Refusals.{of_the_stream}
use Rattle.reader.specs.declared.Reader.{Reader}
use Rattle.reader.specs.Read.{Given, scan_of, state_of, sound_reader, fresh_reader, read_of}
use Rattle.reader.proofs.State.Kept.{Hands, keeps_scan}
use Rattle.reader.proofs.State.Arrays.{laid_front, read_sound, read_unsound}

-- what stands in an array with these bytes laid over it
hands_in : (said : Option Verdict) (hs : List Handed) (bytes kept : List ℕ) → Hands hs kept → verdicts_in said ≡ map verdict_for hs
    → handed_in said (laid bytes 0 kept) ≡ hs
hands_in None [] bytes kept k e = refl
hands_in None (h ∷ hs) bytes kept k e = absurd (nil≢cons e)
hands_in (Some v) [] bytes kept k e = absurd (cons≢nil e)
hands_in (Some v) (h ∷ []) bytes kept k e =
    let number : v ≡ verdict_for h = head-eq_of_cons-eq e in
    rw (number, laid_front bytes kept, k (drop (length kept) bytes))
hands_in (Some v) (h ∷ g ∷ hs) bytes kept k e = absurd k

-- some bytes are laid over the array, in which the message stands
record Laid (r : Reader) (a : Given) : Type 0 where
  kept : List ℕ
  hands : Hands a.said kept
  bytes : a.reader.bytes ≡ laid r.bytes 0 kept

laid_by : (r : Reader) (bs : List ℕ) (t : Bool) → sound_reader r ≡ t → Laid r (read_of r bs)
laid_by r bs true h =
    rw (read_sound r bs h)
    (record {
      kept = (scan_of r.escapes (state_of r) bs).kept;
      hands = (keeps_scan r.escapes (state_of r) bs).hands;
      bytes = refl;
    })
laid_by r bs false h = rw (read_unsound r bs h) (record { kept = []; hands = λ more. refl; bytes = refl })

-- the verdict and the reader tell what is handed out
pub handed_from_verdict : (r : Reader) (bs : List ℕ) (reader : Reader) (said : Option Verdict)
    → verdicts_in said ≡ map verdict_for (read_of r bs).said
    → reader ≡ (read_of r bs).reader → handed_in said reader.bytes ≡ (read_of r bs).said
handed_from_verdict r bs reader said e n =
    let w = laid_by r bs (sound_reader r) refl in
    ap (λ (x : Reader). handed_in said x.bytes) n
    ∙ ap (handed_in said) w.bytes
    ∙ hands_in said (read_of r bs).said r.bytes w.kept w.hands e

-- at most one verdict, as code says it
abbrev pub said_for : List Handed → Option Verdict
said_for [] = None
said_for (h ∷ hs) = Some (verdict_for h)

at_most_one : (hs : List Handed) (kept : List ℕ) → Hands hs kept → verdicts_in (said_for hs) ≡ map verdict_for hs
at_most_one [] kept k = refl
at_most_one (h ∷ []) kept k = refl
at_most_one (h ∷ g ∷ hs) kept k = absurd k

-- one case of `Option Verdict` has the verdicts of a read
pub one_verdict : (r : Reader) (bs : List ℕ)
    → verdicts_in (said_for (read_of r bs).said) ≡ map verdict_for (read_of r bs).said
one_verdict r bs = let w = laid_by r bs (sound_reader r) refl in at_most_one (read_of r bs).said w.kept w.hands

-- a sound reader gives 0 to 8, by the strict rule 15, and never 12
pub sound_verdict : (r : Reader) (bs : List ℕ) (h : Handed) (hs : List Handed) → sound_reader r ≡ true
    → (read_of r bs).said ≡ h ∷ hs → of_the_stream r.escapes h.verdict ≡ true
sound_verdict r bs h hs k e =
    let said : (scan_of r.escapes (state_of r) bs).said ≡ h ∷ hs = rw (read_sound r bs k) at e in
    rw said at (keeps_scan r.escapes (state_of r) bs).sheet

-- an unsound one gives 12, which carries nothing, uses no byte and comes back
pub unsound_verdict : (r : Reader) (bs : List ℕ) → sound_reader r ≡ false
    → read_of r bs ≡ record { reader = r; used = 0; said = record { verdict = 12; type_byte_of = 0; message = [] } ∷ [] }
unsound_verdict r bs h = read_unsound r bs h

-- ---- a fresh reader

zeros : (n i : ℕ) → ◌≡◌ {A = ℕ} (get_or (replicate n 0) i 0) 0
zeros zero i = refl
zeros (suc n) zero = refl
zeros (suc n) (suc i) = zeros n i

-- every byte of its array is 0
pub fresh_zero : (rule : Escapes) (f : Framing) (i : ℕ) → get_or (fresh_reader rule f).bytes i 0 ≡ 0
fresh_zero rule f i = zeros (longest + 3) i
