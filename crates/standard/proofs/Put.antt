-- Laws of `Put`: what a function that puts bytes one after another has done. Assumes nothing.
use Prim.Native.Nat.{ℕ, zero, suc, ◌+◌, ◌-◌, ◌≤◌, ◌<◌}
use native.Mathlib.Nat.{zero-add, add-zero, add-suc, suc-add, add_assoc}
use native.Mathlib.Numerals.{add-one}
use native.Mathlib.Omega.{arith}
use mathlib.Core.Path.{◌≡◌, refl, sym, ap, ◌∙◌}
use mathlib.Core.List.{List, [], ◌∷◌, ◌++◌, append_assoc, append-nil}
use lib.ListN.{length, get_or, take, drop, set, length-append, length-drop, drop_of_length-le}
use lib.Seq.{sets, sets-eq, take_all, drop-cons, take_at, drop-drop, length-sets}
use borrow.Author.Tests.{le-leb, lt-leb}
use borrow.Rule.Slice.PartMut.{put_mid}
use Rattle.standard.specs.Words.{Put, PutIfFits, laid}

-- two runs of stores, one after the other
pub sets_append : (l : List ℕ) (i : ℕ) (a b : List ℕ) → sets l i (a ++ b) ≡ sets (sets l i a) (i + length a) b
sets_append l i [] b = rw add-zero
sets_append l i (x ∷ a) b =
    sets_append (set l i x) (suc i) a b
    ∙ ap (λ (n : ℕ). sets (sets (set l i x) (suc i) a) n b) (suc-add i (length a) ∙ sym (add-suc i (length a)))

pub put_none : (l : List ℕ) (i : ℕ) → Put l i [] l i
put_none l i = record { bytes = refl; end = sym (add-zero i) }

pub put_one : (l : List ℕ) (i x : ℕ) → Put l i (x ∷ []) (set l i x) (i + 1)
put_one l i x = record { bytes = refl; end = refl }

-- what is put after what was put
pub put_then : {l l' l'' a b : List ℕ} {i j k : ℕ} → Put l i a l' j → Put l' j b l'' k → Put l i (a ++ b) l'' k
put_then {l} {l'} {l''} {a} {b} {i} {j} {k} p q = record {
  bytes =
      q.bytes
      ∙ ap (λ (m : List ℕ). sets m j b) p.bytes
      ∙ ap (λ (n : ℕ). sets (sets l i a) n b) p.end
      ∙ sym (sets_append l i a b);
  end =
      q.end
      ∙ ap (λ (n : ℕ). n + length b) p.end
      ∙ add_assoc i (length a) (length b)
      ∙ ap (λ (n : ℕ). i + n) (sym (length-append a b));
}

pub put_length : {l part l' : List ℕ} {i n : ℕ} → Put l i part l' n → length l' ≡ length l
put_length {l} {part} {l'} {i} {n} p = ap length p.bytes ∙ length-sets l i part

-- what was put at the beginning is the beginning
pub put_front : {l part l' : List ℕ} {n : ℕ} → Put l 0 part l' n → n ≤ length l → take n l' ≡ part
put_front {l} {part} {l'} {n} p h =
    let e : n ≡ length part = p.end ∙ zero-add (length part) in
    let fit : 0 + length part ≤ length l = omega arith in
    ap (take n) (p.bytes ∙ sets-eq part l 0 fit) ∙ take_at part (drop (0 + length part) l) n (sym e)

-- what was put is laid over the buffer, where it fits
pub put_laid : {l part l' : List ℕ} {i n : ℕ} → Put l i part l' n → i + length part ≤ length l → l' ≡ laid l i part
put_laid {l} {part} {l'} {i} {n} p h = p.bytes ∙ sets-eq part l i h

-- a public put is a put where the part fits
pub fits_put : {l part l' : List ℕ} {i n : ℕ} → PutIfFits l i part l' n → i + length part ≤ length l
    → Put l i part l' n
fits_put {l} {part} {l'} {i} {n} p h =
    let e = le-leb (i + length part) (length l) h in
    let leaves : l' ≡ laid l i part = p.leaves ∙ rw e in
    record { bytes = leaves ∙ sym (sets-eq part l i h); end = p.says ∙ rw e }

-- and a put is a public one there
pub put_fits : {l part l' : List ℕ} {i n : ℕ} → Put l i part l' n → i + length part ≤ length l
    → PutIfFits l i part l' n
put_fits {l} {part} {l'} {i} {n} p h =
    let e = le-leb (i + length part) (length l) h in
    record { leaves = rw e (put_laid p h); says = rw e p.end }

-- where it does not fit, the public one leaves all as it was
pub put_unfit : (l : List ℕ) (i : ℕ) (part : List ℕ) → length l < i + length part → PutIfFits l i part l i
put_unfit l i part h = let e = lt-leb (i + length part) (length l) h in record { leaves = rw e; says = rw e }

-- the promise of a public put settles its answer and every byte
pub put_settled : {l part l' l'' : List ℕ} {i n n' : ℕ} → PutIfFits l i part l' n → PutIfFits l i part l'' n'
    → (n ≡ n') × (l' ≡ l'')
put_settled p q = (p.says ∙ sym q.says, p.leaves ∙ sym q.leaves)

-- the turn of a loop that copies: one more byte is stored
pub sets_more : (l m : List ℕ) (i : ℕ) → i < length m
    → sets (set l i (get_or m i 0)) (i + 1) (drop (i + 1) m) ≡ sets l i (drop i m)
sets_more l m i h =
    ap (λ (n : ℕ). sets (set l i (get_or m i 0)) n (drop n m)) (add-one i) ∙ ap (sets l i) (sym (drop-cons m i 0 h))

-- stores from the beginning of the part from place on, said of the whole
over : (place : ℕ) (part out : List ℕ) → place + length part ≤ length out
    → take place out ++ sets (drop place out) 0 part ≡ laid out place part
over place part out h =
    let fit : 0 + length part ≤ length (drop place out) = rw length-drop (omega arith) in
    ap (λ (l : List ℕ). take place out ++ l)
    (sets-eq part (drop place out) 0 fit
    ∙ ap (λ (n : ℕ). part ++ drop n (drop place out)) (zero-add (length part))
    ∙ ap (λ (l : List ℕ). part ++ l) (drop-drop (length part) place out))
    ∙ sym (append_assoc (take place out) part (drop (place + length part) out))

-- the part of out from place on was lent as `&mut out[place..]`, and comes back with stores at its beginning
pub mid_laid : (place : ℕ) (part out : List ℕ) → place + length part ≤ length out
    → put_mid place (length out - place) out (sets (take (length out - place) (drop place out)) 0 part)
    ≡ laid out place part
mid_laid place part out h =
    let n = length out - place in
    let rest = drop place out in
    let short : length rest ≤ n = rw length-drop (omega arith) in
    ap (λ (l : List ℕ). take place out ++ (sets l 0 part ++ drop n rest)) (take_all n rest short)
    ∙ ap (λ (l : List ℕ). take place out ++ (sets rest 0 part ++ l)) (drop_of_length-le rest short)
    ∙ ap (λ (l : List ℕ). take place out ++ l) (append-nil (sets rest 0 part))
    ∙ over place part out h

-- a part copied into `&mut buffer[place..place + n]`, said of the whole buffer as it comes back
pub copied_to : (place n : ℕ) (part buffer : List ℕ) {after : List ℕ} → place + length part ≤ length buffer
    → n ≡ length part
    → after ≡ part
    → Put buffer place part (put_mid place n buffer after) (place + length part)
copied_to place n part buffer {after} h e f =
    let whole : put_mid place n buffer after ≡ laid buffer place part =
    ap (λ (l : List ℕ). take place buffer ++ (l ++ drop n (drop place buffer))) f
    ∙ ap (λ (k : ℕ). take place buffer ++ (part ++ drop k (drop place buffer))) e
    ∙ ap (λ (l : List ℕ). take place buffer ++ (part ++ l)) (drop-drop (length part) place buffer)
    ∙ sym (append_assoc (take place buffer) part (drop (place + length part) buffer)) in
    record { bytes = whole ∙ sym (sets-eq part buffer place h); end = refl }

-- the bytes of a part one by one
abbrev pub listed : ℕ → ℕ → List ℕ → List ℕ
listed zero k m = []
listed (suc n) k m = get_or m k 0 ∷ listed n (suc k) m

pub part_listed : (n k : ℕ) (m : List ℕ) → k + n ≤ length m → take n (drop k m) ≡ listed n k m
part_listed zero k m h = refl
part_listed (suc n) k m h =
    ap (take (suc n)) (drop-cons m k 0 (omega arith)) ∙ ap (λ l. get_or m k 0 ∷ l) (part_listed n (suc k) m (omega arith))
