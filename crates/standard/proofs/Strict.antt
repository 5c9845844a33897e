-- The two rules of escapes (document 02, No. 5): a stream whose every escape was needed gives the same by both, and one
-- that had another gives 15, at the byte that shows it, or the same. In ASCII there is one rule. Assumes nothing.
use Prim.Native.Nat.{ℕ, ◌+◌}
use native.Mathlib.Omega.{arith}
use mathlib.Core.Path.{◌≡◌, refl, sym, ap, ap₂, ◌∙◌}
use mathlib.Core.Logic.{◌⊎◌, inl, inr}
use mathlib.Core.Bool.{Bool, true, false, cond}
use mathlib.Core.Option.{Option, none, some}
use mathlib.Core.List.{List, [], ◌∷◌, ◌++◌}
use lib.Bits.{bit_xor}
use lib.Dec.{eqb, ltb}
use lib.ListN.{length, drop, length-append}
use borrow.Author.Tests.{le-ltb, ltb-false, ne_eqb}
use Rattle.standard.specs.declared.Framing.{Framing}
use Rattle.standard.specs.declared.Framing.TheVariants.{Binary, Ascii}
use Rattle.standard.specs.declared.Escapes.{Escapes}
use Rattle.standard.specs.declared.Escapes.TheVariants.{Strict, Lenient}
use Rattle.standard.specs.Framing.{start_of, Recovered, also, needed, stopped, unstuff, recovered, only_needed}
use Rattle.standard.specs.Framing.{escapes_needed}
use Rattle.standard.specs.Messages.{length_ok}
use Rattle.standard.specs.Judge.{Handed, Judged, decided, unfinished, plain, stuck, ended, frame_judged}
use Rattle.standard.specs.Judge.{judge}
use Rattle.standard.specs.Stream.{parts_of, part_hands, parts_hand, handed_of, parts_needed, stream_needed}
use Rattle.standard.proofs.Messages.{both_true}
use Rattle.standard.proofs.Decided.{Onward, onward_cons, whole_front}

-- ---- where each escape was needed

unstuff_alike : (escape : Bool) (l : List ℕ) → only_needed escape l ≡ true
    → unstuff Strict escape l ≡ unstuff Lenient escape l
unfolding unstuff only_needed
unstuff_alike escape [] h = refl
unstuff_alike true (b ∷ l) h =
    let both = both_true (needed b) (only_needed false l) h in
    rw both.0 (ap (also (bit_xor b 0x20)) (unstuff_alike false l both.1))
unstuff_alike false (b ∷ l) h =
    ap (λ (r : Recovered). cond (eqb b 0x7D) r (also b r)) (unstuff_alike (eqb b 0x7D) l h)

pub recovered_alike : (f : Framing) (l : List ℕ) → escapes_needed f l ≡ true
    → recovered Strict f l ≡ recovered Lenient f l
recovered_alike Binary l h = unstuff_alike false l h
recovered_alike Ascii l h = refl

judge_alike : (f : Framing) (part : List ℕ) → escapes_needed f (drop 1 part) ≡ true
    → judge Strict f part ≡ judge Lenient f part
judge_alike f part h =
    ap (λ (r : Recovered). frame_judged r.bytes r.fault (ended f (drop 1 part)))
    (recovered_alike f (drop 1 part) h)

parts_alike : (f : Framing) (parts : List (List ℕ)) → parts_needed f parts ≡ true
    → parts_hand Strict f parts ≡ parts_hand Lenient f parts
parts_alike f [] h = refl
parts_alike f (part ∷ later) h =
    let both = both_true (escapes_needed f (drop 1 part)) (parts_needed f later) h in
    ap₂ (λ (j : Judged) (hs : List Handed). part_hands j later ++ hs) (judge_alike f part both.0)
    (parts_alike f later both.1)

-- STRICTNESS COSTS NOBODY: a stream whose every escape was needed gives the same by both rules
pub handed_alike : (f : Framing) (stream : List ℕ) → stream_needed f stream ≡ true
    → handed_of Strict f stream ≡ handed_of Lenient f stream
handed_alike f stream h = parts_alike f (parts_of (start_of f) stream) h

ascii_needed : (parts : List (List ℕ)) → parts_needed Ascii parts ≡ true
ascii_needed [] = refl
ascii_needed (part ∷ later) = ascii_needed later

-- IN ASCII THE RULE HAS NO EFFECT
pub ascii_alike : (rule : Escapes) (stream : List ℕ) → handed_of rule Ascii stream ≡ handed_of Lenient Ascii stream
ascii_alike Strict stream = handed_alike Ascii stream (ascii_needed (parts_of (start_of Ascii) stream))
ascii_alike Lenient stream = refl

-- ---- where an escape was not needed

-- the strict rule has stopped with 15: up to there both recover the same
record Early (r r' : Recovered) : Type 0 where
  fault : r.fault ≡ some 15
  bytes : Onward r.bytes r'.bytes

also_either : (b : ℕ) (r r' : Recovered) → (r ≡ r') ⊎ Early r r' → (also b r ≡ also b r') ⊎ Early (also b r) (also b r')
also_either b r r' (inl e) = inl (ap (also b) e)
also_either b r r' (inr w) =
    inr (record { fault = w.fault; bytes = onward_cons b r.bytes r'.bytes w.bytes })

unstuff_either : (escape : Bool) (l : List ℕ)
    → (unstuff Strict escape l ≡ unstuff Lenient escape l) ⊎ Early (unstuff Strict escape l) (unstuff Lenient escape l)
unfolding unstuff
unstuff_either escape [] = inl refl
unstuff_either true (b ∷ l) =
    go (needed b) (unstuff Strict false l) (unstuff Lenient false l) (unstuff_either false l)
  where
    go : (t : Bool) (r r' : Recovered) → (r ≡ r') ⊎ Early r r'
        → (cond t (also (bit_xor b 0x20) r) (stopped 15) ≡ also (bit_xor b 0x20) r')
        ⊎ Early (cond t (also (bit_xor b 0x20) r) (stopped 15)) (also (bit_xor b 0x20) r')
    go true r r' w = also_either (bit_xor b 0x20) r r' w
    go false r r' w = inr (record { fault = refl; bytes = record { extra = bit_xor b 0x20 ∷ r'.bytes; is = refl } })
unstuff_either false (b ∷ l) =
    go (eqb b 0x7D) (unstuff Strict (eqb b 0x7D) l) (unstuff Lenient (eqb b 0x7D) l) (unstuff_either (eqb b 0x7D) l)
  where
    go : (t : Bool) (r r' : Recovered) → (r ≡ r') ⊎ Early r r'
        → (cond t r (also b r) ≡ cond t r' (also b r')) ⊎ Early (cond t r (also b r)) (cond t r' (also b r'))
    go true r r' w = w
    go false r r' w = also_either b r r' w

module _ (after : List ℕ) where
  abbrev judged : Recovered → Judged
  judged r = frame_judged r.bytes r.fault (ended Binary after)

  -- a frame that was whole by then is judged alike
  early_judged : (bytes extra : List ℕ) (fault : Option ℕ)
      → (judged (record { bytes = bytes; fault = some 15 }) ≡ judged (record { bytes = bytes ++ extra; fault = fault }))
      ⊎ (judged (record { bytes = bytes; fault = some 15 }) ≡ plain 15)
  early_judged [] extra fault = inr refl
  early_judged (L ∷ rest) extra fault = go (length_ok L) (ltb (length rest) (L + 2)) refl
    where
      go : (s t : Bool) → ltb (length rest) (L + 2) ≡ t
          → (cond s (cond t (plain 15) (ended Binary after L rest)) (plain 4)
          ≡ cond s (cond (ltb (length (rest ++ extra)) (L + 2)) (stuck fault) (ended Binary after L (rest ++ extra)))
          (plain 4))
          ⊎ (cond s (cond t (plain 15) (ended Binary after L rest)) (plain 4) ≡ plain 15)
      go false t k = inl refl
      go true true k = inr refl
      go true false k =
          let long = ltb-false (length rest) (L + 2) k in
          let longer = le-ltb (length (rest ++ extra)) (L + 2) (omega (arith, length-append rest extra)) in
          inl (rw longer (ap decided (sym (whole_front [] L rest extra long))))

  judged_either : (r r' : Recovered) → (r ≡ r') ⊎ Early r r' → (judged r ≡ judged r') ⊎ (judged r ≡ plain 15)
  judged_either r r' (inl e) = inl (ap judged e)
  judged_either r r' (inr w) =
      rw (w.fault, w.bytes.is) (early_judged r.bytes w.bytes.extra r'.fault)

-- STRICTNESS ADDS ONE VERDICT AND CHANGES NO OTHER: of every part it gives 15, or what the old rule gives
pub judge_either : (f : Framing) (part : List ℕ)
    → (judge Strict f part ≡ judge Lenient f part) ⊎ (judge Strict f part ≡ plain 15)
judge_either Binary part =
    let after = drop 1 part in
    judged_either after (unstuff Strict false after) (unstuff Lenient false after) (unstuff_either false after)
judge_either Ascii part = inl refl

-- ---- where it falls

abbrev with15 : Recovered → Recovered
with15 r = record { bytes = r.bytes; fault = some 15 }

-- recovering stops at a byte that may not follow the 7Dh before it, and of the two nothing is recovered
stops_there : (escape : Bool) (front : List ℕ) (b : ℕ) (rest : List ℕ) → needed b ≡ false
    → (unstuff Strict escape (front ++ (0x7D ∷ []))).fault ≡ none
    → unstuff Strict escape (front ++ (0x7D ∷ b ∷ rest)) ≡ with15 (unstuff Strict escape (front ++ (0x7D ∷ [])))
unfolding unstuff
stops_there true [] b rest n h = let z : ◌≡◌ {A = ℕ} 0 1 = cc in absurd (omega arith)
stops_there false [] b rest n h = rw n
stops_there true (x ∷ front) b rest n h =
    go (needed x) (unstuff Strict false (front ++ (0x7D ∷ []))) (unstuff Strict false (front ++ (0x7D ∷ b ∷ rest)))
    (stops_there false front b rest n) h
  where
    y : ℕ
    y = bit_xor x 0x20

    go : (t : Bool) (r r' : Recovered) → (r.fault ≡ none → r' ≡ with15 r)
        → (cond t (also y r) (stopped 15)).fault ≡ none
        → cond t (also y r') (stopped 15) ≡ with15 (cond t (also y r) (stopped 15))
    go true r r' ih k = ap (also y) (ih k)
    go false r r' ih k = let z : ◌≡◌ {A = ℕ} 0 1 = cc in absurd (omega arith)
stops_there false (x ∷ front) b rest n h =
    go (eqb x 0x7D) (unstuff Strict (eqb x 0x7D) (front ++ (0x7D ∷ [])))
    (unstuff Strict (eqb x 0x7D) (front ++ (0x7D ∷ b ∷ rest))) (stops_there (eqb x 0x7D) front b rest n) h
  where
    go : (t : Bool) (r r' : Recovered) → (r.fault ≡ none → r' ≡ with15 r) → (cond t r (also x r)).fault ≡ none
        → cond t r' (also x r') ≡ with15 (cond t r (also x r))
    go true r r' ih k = ih k
    go false r r' ih k = ap (also x) (ih k)

-- an unfinished part has stopped at no byte, and where one stops it, that byte decides
unfinished_stops : (bytes : List ℕ) (fault : Option ℕ) (a more : List ℕ)
    → frame_judged bytes fault (ended Binary a) ≡ unfinished
    → (fault ≡ none) × (frame_judged bytes (some 15) (ended Binary more) ≡ plain 15)
unfinished_stops [] none a more e = (refl, refl)
unfinished_stops [] (some v) a more e = let z : ◌≡◌ {A = ℕ} 0 1 = cc in absurd (omega arith)
unfinished_stops (L ∷ rest) fault a more e = go (length_ok L) (ltb (length rest) (L + 2)) fault e
  where
    go : (s t : Bool) (fault : Option ℕ)
        → cond s (cond t (stuck fault) (ended Binary a L rest)) (plain 4) ≡ unfinished
        → (fault ≡ none) × (cond s (cond t (plain 15) (ended Binary more L rest)) (plain 4) ≡ plain 15)
    go true true none k = (refl, refl)
    go true true (some v) k = let z : ◌≡◌ {A = ℕ} 0 1 = cc in absurd (omega arith)
    go true false fault k = let z : ◌≡◌ {A = ℕ} 0 1 = cc in absurd (omega arith)
    go false t fault k = let z : ◌≡◌ {A = ℕ} 0 1 = cc in absurd (omega arith)

-- "7Dh followed by a byte other than 5Eh, 5Dh or 7Eh is verdict 15 at that byte": up to the 7Dh the part is unfinished,
-- with that byte it is 15, whatever follows. (A 7Eh is in no part: it starts the next)
pub bad_escape : (front : List ℕ) (b : ℕ) (rest : List ℕ)
    → judge Strict Binary (0x7E ∷ front ++ (0x7D ∷ [])) ≡ unfinished → (b ≡ 0x5E → ⊥) → (b ≡ 0x5D → ⊥)
    → judge Strict Binary (0x7E ∷ front ++ (0x7D ∷ b ∷ rest)) ≡ plain 15
bad_escape front b rest e no-5E no-5D =
    let before = unstuff Strict false (front ++ (0x7D ∷ [])) in
    let all = front ++ (0x7D ∷ b ∷ rest) in
    let w = unfinished_stops before.bytes before.fault (front ++ (0x7D ∷ [])) all e in
    let other : needed b ≡ false = rw (ne_eqb b 0x5E no-5E, ne_eqb b 0x5D no-5D) in
    ap (λ (r : Recovered). frame_judged r.bytes r.fault (ended Binary all))
    (stops_there false front b rest other w.0)
    ∙ w.1
