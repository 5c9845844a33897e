-- What is decided stays decided: a part whose bytes have their verdict has the same one, whatever bytes follow. So
-- every part that is decided is reported after all kinds of noise. Assumes nothing.
use Prim.Native.Nat.{ℕ, zero, suc, ◌+◌, ◌*◌, ◌≤◌, ◌<◌}
use native.Mathlib.Omega.{arith}
use mathlib.Core.Path.{◌≡◌, refl, ap, ◌∙◌}
use mathlib.Core.Logic.{◌⊎◌, inl, inr}
use mathlib.Core.Bool.{Bool, true, false, cond, not}
use mathlib.Core.Option.{Option, none, some}
use mathlib.Core.List.{List, [], ◌∷◌, ◌++◌, append-nil}
use lib.Bits.{bit_xor}
use lib.Dec.{eqb, ltb}
use lib.ListN.{length, drop, get_or-append, length-append}
use lib.Seq.{take-append-le}
use borrow.Author.Tests.{eq-eqb, lt-ltb, le-ltb, ltb-false}
use Rattle.standard.specs.declared.Framing.{Framing}
use Rattle.standard.specs.declared.Framing.TheVariants.{Binary, Ascii}
use Rattle.standard.specs.declared.Escapes.{Escapes}
use Rattle.standard.specs.Messages.{length_ok, among}
use Rattle.standard.specs.Framing.{start_of, Recovered, also, may_follow, stopped, unstuff, value_of, digits_of}
use Rattle.standard.specs.Framing.{pairs, recovered}
use Rattle.standard.specs.Judge.{Handed, decided, plain, whole_of, at_stop, ended, stuck}
use Rattle.standard.specs.Judge.{frame_judged, judge_after, judge}
use Rattle.standard.specs.Stream.{up_to_start, handed_of}
use Rattle.standard.proofs.Judge.{up_to_through, parts_through, handed_append}

-- ---- what is recovered from more bytes

-- a list that begins with another
pub record Onward (front all : List ℕ) : Type 0 where
  pub extra : List ℕ
  pub is : all ≡ front ++ extra

pub onward_cons : (b : ℕ) (front all : List ℕ) → Onward front all → Onward (b ∷ front) (b ∷ all)
onward_cons b front all w = record { extra = w.extra; is = ap (λ (l : List ℕ). b ∷ l) w.is }

-- recovering has stopped, or it goes on from there
record Halted (r r' : Recovered) : Type 0 where
  bytes : r'.bytes ≡ r.bytes
  fault : r'.fault ≡ r.fault

record Further (r r' : Recovered) : Type 0 where
  none_yet : r.fault ≡ none
  bytes : Onward r.bytes r'.bytes

-- with a byte before both
also_more : (b : ℕ) (r r' : Recovered) → Halted r r' ⊎ Further r r'
    → Halted (also b r) (also b r') ⊎ Further (also b r) (also b r')
also_more b r r' (inl w) = inl (record { bytes = ap (λ (l : List ℕ). b ∷ l) w.bytes; fault = w.fault })
also_more b r r' (inr w) =
    inr (record { none_yet = w.none_yet; bytes = onward_cons b r.bytes r'.bytes w.bytes })

unstuff_more : (rule : Escapes) (escape : Bool) (a more : List ℕ)
    → Halted (unstuff rule escape a) (unstuff rule escape (a ++ more))
    ⊎ Further (unstuff rule escape a) (unstuff rule escape (a ++ more))
unfolding unstuff
unstuff_more rule escape [] more =
    inr (record { none_yet = refl; bytes = record { extra = (unstuff rule escape more).bytes; is = refl } })
unstuff_more rule true (b ∷ a) more =
    go (may_follow rule b) (unstuff rule false a) (unstuff rule false (a ++ more)) (unstuff_more rule false a more)
  where
    x : ℕ
    x = bit_xor b 0x20

    go : (t : Bool) (r r' : Recovered) → Halted r r' ⊎ Further r r'
        → Halted (cond t (also x r) (stopped 15)) (cond t (also x r') (stopped 15))
        ⊎ Further (cond t (also x r) (stopped 15)) (cond t (also x r') (stopped 15))
    go true r r' w = also_more x r r' w
    go false r r' w = inl (record { bytes = refl; fault = refl })
unstuff_more rule false (b ∷ a) more =
    go (eqb b 0x7D) (unstuff rule (eqb b 0x7D) a) (unstuff rule (eqb b 0x7D) (a ++ more))
    (unstuff_more rule (eqb b 0x7D) a more)
  where
    go : (t : Bool) (r r' : Recovered) → Halted r r' ⊎ Further r r'
        → Halted (cond t r (also b r)) (cond t r' (also b r')) ⊎ Further (cond t r (also b r)) (cond t r' (also b r'))
    go true r r' w = w
    go false r r' w = also_more b r r' w

-- a byte among them is no digit, or all are digits
record NoneAt (a : List ℕ) (more : List ℕ) : Type 0 where
  fewer : length (digits_of a) < length a
  same : digits_of (a ++ more) ≡ digits_of a

record AllDigits (a : List ℕ) (more : List ℕ) : Type 0 where
  all : length (digits_of a) ≡ length a
  then : digits_of (a ++ more) ≡ digits_of a ++ digits_of more

digits_more : (a more : List ℕ) → NoneAt a more ⊎ AllDigits a more
unfolding digits_of
digits_more [] more = inr (record { all = refl; then = refl })
digits_more (c ∷ a) more = go (value_of c) refl (digits_more a more)
  where
    go : (o : Option ℕ) → value_of c ≡ o → NoneAt a more ⊎ AllDigits a more
        → NoneAt (c ∷ a) more ⊎ AllDigits (c ∷ a) more
    go none e w = inl (record { fewer = rw e (omega arith); same = rw e })
    go (some d) e (inl w) =
        inl (record { fewer = rw e (omega (arith, w.fewer)); same = rw (e, w.same) })
    go (some d) e (inr w) = inr (record { all = rw e (ap suc w.all); then = rw (e, w.then) })

pairs_more : (ds es : List ℕ) → Onward (pairs ds) (pairs (ds ++ es))
unfolding pairs
pairs_more [] es = record { extra = pairs es; is = refl }
pairs_more (h ∷ []) es = record { extra = pairs (h ∷ es); is = refl }
pairs_more (h ∷ l ∷ ds) es = onward_cons _ (pairs ds) (pairs (ds ++ es)) (pairs_more ds es)

recovered_more : (rule : Escapes) (f : Framing) (a more : List ℕ)
    → Halted (recovered rule f a) (recovered rule f (a ++ more))
    ⊎ Further (recovered rule f a) (recovered rule f (a ++ more))
recovered_more rule Binary a more = unstuff_more rule false a more
recovered_more rule Ascii a more = go (digits_more a more)
  where
    go : NoneAt a more ⊎ AllDigits a more
        → Halted (recovered rule Ascii a) (recovered rule Ascii (a ++ more)) ⊎ Further (recovered rule Ascii a)
        (recovered rule Ascii (a ++ more))
    go (inl w) =
        let few : length (digits_of a) < length (a ++ more) = omega (arith, w.fewer, length-append a more) in
        inl (record {
          bytes = ap pairs w.same;
          fault = rw (w.same, lt-ltb _ _ few, lt-ltb _ _ w.fewer);
        })
    go (inr w) = inr (record {
      none_yet = rw (le-ltb (length (digits_of a)) (length a) (omega (arith, w.all)));
      bytes = rw w.then (pairs_more (digits_of a) (digits_of more));
    })

-- ---- and judged

-- bytes beyond the sums do not count
pub whole_front : (stop : List (Bool × ℕ)) (L : ℕ) (rest more : List ℕ) → L + 2 ≤ length rest
    → whole_of stop L (rest ++ more) ≡ whole_of stop L rest
unfolding whole_of
whole_front stop L rest more h = rw (
  take-append-le L rest more (omega arith),
  get_or-append rest more 0 L (omega arith),
  get_or-append rest more 0 (L + 1) (omega arith),
)

drop_more : (n c : ℕ) (a cs more : List ℕ) → drop n a ≡ c ∷ cs → drop n (a ++ more) ≡ c ∷ cs ++ more
drop_more zero c a cs more e = ap (λ (l : List ℕ). l ++ more) e
drop_more (suc n) c [] cs more e = absurd (let z : ◌≡◌ {A = ℕ} 0 1 = cc in omega arith)
drop_more (suc n) c (b ∷ a) cs more e = drop_more n c a cs more e

-- the end decides alike
ended_more : (f : Framing) (a more : List ℕ) (L : ℕ) (rest extra : List ℕ) (h : Handed) → L + 2 ≤ length rest
    → ended f a L rest ≡ decided h → ended f (a ++ more) L (rest ++ extra) ≡ decided h
ended_more Binary a more L rest extra h k e = ap decided (whole_front [] L rest extra k) ∙ e
ended_more Ascii a more L rest extra h k e = go (drop (2 * (L + 3)) a) refl e
  where
    go : (l : List ℕ) → drop (2 * (L + 3)) a ≡ l → at_stop l L rest ≡ decided h
        → at_stop (drop (2 * (L + 3)) (a ++ more)) L (rest ++ extra) ≡ decided h
    go [] q w = absurd (let z : ◌≡◌ {A = ℕ} 0 1 = cc in omega arith)
    go (c ∷ cs) q w =
        rw (drop_more (2 * (L + 3)) c a cs more q)
        (ap decided (whole_front ((not (eqb c 0x0D), 3) ∷ []) L rest extra k) ∙ w)

-- a part that stops short has the verdict of the byte that stops it
stuck_decided : (fault : Option ℕ) (h : Handed) → fault ≡ none → stuck fault ≡ decided h → ⊥
stuck_decided fault h e w = let z : ◌≡◌ {A = ℕ} 0 1 = cc in omega arith

module _ (f : Framing) (a more : List ℕ) (h : Handed) where
  -- where recovering has stopped
  halted : (bytes : List ℕ) (fault : Option ℕ) → frame_judged bytes fault (ended f a) ≡ decided h
      → frame_judged bytes fault (ended f (a ++ more)) ≡ decided h
  halted [] fault e = e
  halted (L ∷ rest) fault e = go (length_ok L) (ltb (length rest) (L + 2)) refl e
    where
      go : (s t : Bool) → ltb (length rest) (L + 2) ≡ t
          → cond s (cond t (stuck fault) (ended f a L rest)) (plain 4) ≡ decided h
          → cond s (cond t (stuck fault) (ended f (a ++ more) L rest)) (plain 4) ≡ decided h
      go true true k w = w
      go true false k w = rw append-nil at (ended_more f a more L rest [] h (ltb-false (length rest) (L + 2) k) w)
      go false t k w = w

  -- where it goes on
  went_on : (bytes extra : List ℕ) (fault fault' : Option ℕ) → fault ≡ none
      → frame_judged bytes fault (ended f a) ≡ decided h
      → frame_judged (bytes ++ extra) fault' (ended f (a ++ more)) ≡ decided h
  went_on [] extra fault fault' n e = absurd (stuck_decided fault h n e)
  went_on (L ∷ rest) extra fault fault' n e = go (length_ok L) (ltb (length rest) (L + 2)) refl e
    where
      go : (s t : Bool) → ltb (length rest) (L + 2) ≡ t
          → cond s (cond t (stuck fault) (ended f a L rest)) (plain 4) ≡ decided h
          → cond s (cond (ltb (length (rest ++ extra)) (L + 2)) (stuck fault') (ended f (a ++ more) L (rest ++ extra)))
          (plain 4) ≡ decided h
      go true true k w = absurd (stuck_decided fault h n w)
      go true false k w =
          let long = ltb-false (length rest) (L + 2) k in
          rw (le-ltb (length (rest ++ extra)) (L + 2) (omega (arith, length-append rest extra)))
          (ended_more f a more L rest extra h long w)
      go false t k w = w

-- WHAT IS DECIDED STAYS DECIDED, whatever follows
pub decided_more : (rule : Escapes) (f : Framing) (a more : List ℕ) (h : Handed) → judge_after rule f a ≡ decided h
    → judge_after rule f (a ++ more) ≡ decided h
decided_more rule f a more h e = go (recovered rule f a) (recovered rule f (a ++ more)) (recovered_more rule f a more) e
  where
    go : (r r' : Recovered) → Halted r r' ⊎ Further r r' → frame_judged r.bytes r.fault (ended f a) ≡ decided h
        → frame_judged r'.bytes r'.fault (ended f (a ++ more)) ≡ decided h
    go r r' (inl w) q = rw (w.bytes, w.fault) (halted f a more h r.bytes r.fault q)
    go r r' (inr w) q =
        rw w.bytes.is (went_on f a more h r.bytes w.bytes.extra r.fault r'.fault w.none_yet q)

-- ---- in a stream

-- it hands out its verdict, and then what follows it hands out its own
pub handed_part : (rule : Escapes) (f : Framing) (part q : List ℕ) (h : Handed) → among (start_of f) part ≡ false
    → judge rule f (start_of f ∷ part) ≡ decided h → handed_of rule f (start_of f ∷ part ++ q) ≡ h ∷ handed_of rule f q
handed_part rule f part q h clear e =
    let x = start_of f in
    let still = decided_more rule f part (up_to_start x q) h e in
    rw (eq-eqb x x refl, up_to_through x part q clear, parts_through x part q clear, still)

-- WHATEVER STANDS BEFORE AND AFTER A PART THAT IS DECIDED: the bytes before are as if its start byte were their last
pub handed_amid_part : (rule : Escapes) (f : Framing) (p part q : List ℕ) (h : Handed) → among (start_of f) part ≡ false
    → judge rule f (start_of f ∷ part) ≡ decided h
    → handed_of rule f (p ++ (start_of f ∷ part ++ q))
    ≡ handed_of rule f (p ++ (start_of f ∷ [])) ++ (h ∷ handed_of rule f q)
handed_amid_part rule f p part q h clear e =
    handed_append rule f p (part ++ q)
    ∙ ap (λ l. handed_of rule f (p ++ (start_of f ∷ [])) ++ l) (handed_part rule f part q h clear e)
