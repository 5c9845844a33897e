-- Bytes that come plainly: one after another, as a run takes them. One law for both framings. Assumes nothing.
use Rattle.std.proofs.Common.{◌≡◌, ℕ, zero, suc, ◌+◌, ◌-◌, ◌*◌, ◌<◌, ◌≤◌, Bool, true, false, cond, ◌&&◌, ◌||◌, eqb, ltb, leb, ◌⊎◌, List, [], ◌∷◌, length, get_or, take, drop, set, sym, refl, ap, ◌∙◌, subst, ap₂, inl, inr, add-one, arith, length-append, length-drop, length-take, length-take-le, take_all, take-add, append_assoc, drop-cons, drop-drop, ltb-false, lt-ltb, eqb-true, le-leb}
use mathlib.Core.Option.{Option as Maybe, none, some}
use Rattle.std.specs.Prelude.{Option, Some, None, MatchOption, slice_get, ◌++◌}
use Rattle.std.specs.Bool.{then_some}
use Rattle.std.proofs.lemmas.Option.{MatchOption-at_some, MatchOption-at_none}
use Rattle.std.proofs.lemmas.List.{take_at, drop_at, drop-append-le, take-append-drop}
use Rattle.std.proofs.lemmas.List.Edits.{sets-eq}
use borrow.Rule.Slice.PartMut.{put_mid}
use mathlib.Core.List.{cons≢nil}
use lib.Seq.{paste-zero}
use borrow.Author.Tests.{eqb-false, lt-leb}
use Rattle.standard.specs.declared.Framing.{Framing}
use Rattle.standard.specs.declared.Framing.TheVariants.{Binary, Ascii}
use Rattle.standard.specs.Words.{laid}
use Rattle.standard.specs.Messages.{longest, length_ok}
use Rattle.standard.specs.Framing.{stuffed, value_of, digits_of, and_digit, pairs}
use Rattle.standard.proofs.Messages.{length_ok_lem}
use Rattle.frames.specs.Plain.{or_none, digit_in, digit_of, said_value, number_of, stands, standing, plain_of, span, beyond, length_of, roomy, growth}
use Rattle.frames.specs.declared.Taken.{Taken}
use Rattle.frames.specs.Plain.{TakesPlain}
use Rattle.frames.specs.Parts.{Lays}

-- a character that is no digit is worth 16
pub no_digit_lem : (c : ℕ) → value_of c ≡ none → digit_in c ≡ 16
no_digit_lem c e = ap or_none e

-- and so is none, as code says it
pub number_none : number_of None ≡ 16
number_none = refl

-- what code says of a character
pub digit_some : (c d : ℕ) → Some d ≡ digit_of c → value_of c ≡ some d
digit_some c d e = by_value (value_of c) e
  where
    by_value : (v : Maybe ℕ) → Some d ≡ said_value v → v ≡ some d
    by_value none e = cc
    by_value (some x) e = cc

pub digit_none : (c : ℕ) → None ≡ digit_of c → value_of c ≡ none
digit_none c e = by_value (value_of c) e
  where
    by_value : (v : Maybe ℕ) → None ≡ said_value v → v ≡ none
    by_value none e = refl
    by_value (some x) e = cc

-- a byte stands exactly if it is sent as itself
pub stands_sent : (b : ℕ) → stands b ≡ eqb (length (stuffed b)) 1
stands_sent b = by_start (eqb b 0x7E) refl
  where
    above : (below : Bool) → ltb b 0x7D ≡ below → (b ≡ 0x7E → ⊥) → (b ≡ 0x7D → ⊥) → below || ltb 0x7E b ≡ true
    above true e start escape = refl
    above false e start escape = lt-ltb 0x7E b (omega (arith, ltb-false b 0x7D e, start, escape))

    by_escape : (t : Bool) → eqb b 0x7D ≡ t → (b ≡ 0x7E → ⊥)
        → stands b ≡ eqb (length (cond t (0x7D ∷ 0x5D ∷ []) (b ∷ []))) 1
    by_escape true e start = ap stands (eqb-true b 0x7D e)
    by_escape false e start = above (ltb b 0x7D) refl start (eqb-false b 0x7D e)

    by_start : (t : Bool) → eqb b 0x7E ≡ t
        → stands b ≡ eqb (length (cond t (0x7D ∷ 0x5E ∷ []) (cond (eqb b 0x7D) (0x7D ∷ 0x5D ∷ []) (b ∷ [])))) 1
    by_start true e = ap stands (eqb-true b 0x7E e)
    by_start false e = by_escape (eqb b 0x7D) refl (eqb-false b 0x7E e)

-- ---- what some bytes begin with

-- none that is plain, a byte that stands for itself, or two digits
pub data Seen : Framing → List ℕ → List ℕ → Type 0 where
  nothing : {f : Framing} {bs : List ℕ} → Seen f bs []
  one : {b : ℕ} {bs : List ℕ} → stands b ≡ true → Seen Binary (b ∷ bs) (b ∷ plain_of Binary bs)
  two : {c d h l : ℕ} {bs : List ℕ} → value_of c ≡ some h → value_of d ≡ some l
      → Seen Ascii (c ∷ d ∷ bs) ((h * 16 + l) ∷ plain_of Ascii bs)

see_one : (b : ℕ) (bs : List ℕ) (t : Bool) → stands b ≡ t → Seen Binary (b ∷ bs) (cond t (b ∷ standing bs) [])
see_one b bs true e = one e
see_one b bs false e = nothing

see_low : (c d h : ℕ) (bs : List ℕ) (v : Maybe ℕ) → value_of c ≡ some h → value_of d ≡ v
    → Seen Ascii (c ∷ d ∷ bs) (pairs (h ∷ and_digit v (digits_of bs)))
unfolding pairs
see_low c d h bs none e k = nothing
see_low c d h bs (some l) e k = two e k

see_high : (c : ℕ) (cs : List ℕ) (v : Maybe ℕ) → value_of c ≡ v → Seen Ascii (c ∷ cs) (pairs (and_digit v (digits_of cs)))
unfolding pairs digits_of
see_high c cs none e = nothing
see_high c [] (some h) e = nothing
see_high c (d ∷ bs) (some h) e = see_low c d h bs (value_of d) e refl

pub seen : (f : Framing) (bs : List ℕ) → Seen f bs (plain_of f bs)
unfolding standing pairs digits_of
seen Binary [] = nothing
seen Binary (b ∷ bs) = see_one b bs (stands b) refl
seen Ascii [] = nothing
seen Ascii (c ∷ cs) = see_high c cs (value_of c) refl

-- ---- one after another

-- after the first of them the others come
pub record After (f : Framing) (bs xs : List ℕ) : Type 0 where
  pub within : span f 1 ≤ length bs
  pub rest : plain_of f (drop (span f 1) bs) ≡ xs

tail : List ℕ → List ℕ
tail [] = []
tail (x ∷ xs) = xs

seen_after : {f : Framing} {bs p : List ℕ} → Seen f bs p → (x : ℕ) (xs : List ℕ) → p ≡ x ∷ xs → After f bs xs
unfolding tail
seen_after nothing x xs e = absurd (cons≢nil (sym e))
seen_after (one s) x xs e = record { within = omega arith; rest = ap tail e }
seen_after (two h l) x xs e = record { within = omega arith; rest = ap tail e }

pub after_one : (f : Framing) (bs : List ℕ) (x : ℕ) (xs : List ℕ) → plain_of f bs ≡ x ∷ xs → After f bs xs
after_one f bs = seen_after (seen f bs)

pub span_none : (f : Framing) → span f 0 ≡ 0
span_none Binary = refl
span_none Ascii = refl

pub span_more : (f : Framing) (n m : ℕ) → span f n + span f m ≡ span f (n + m)
span_more Binary n m = refl
span_more Ascii n m = omega arith

beyond_few : (f : Framing) → beyond f ≤ 3
beyond_few Binary = omega arith
beyond_few Ascii = omega arith

-- i of them were taken
pub record Went (f : Framing) (bytes : List ℕ) (i : ℕ) : Type 0 where
  pub line : span f i ≤ length bytes
  pub some : i ≤ length (plain_of f bytes)
  pub rest : plain_of f (drop (span f i) bytes) ≡ drop i (plain_of f bytes)

went_none : (f : Framing) (bytes : List ℕ) → Went f bytes 0
went_none Binary bytes = record { line = omega arith; some = omega arith; rest = refl }
went_none Ascii bytes = record { line = omega arith; some = omega arith; rest = refl }

went_on : {f : Framing} {bytes : List ℕ} {i : ℕ} → Went f bytes i → i < length (plain_of f bytes) → Went f bytes (i + 1)
went_on {f} {bytes} {i} w h =
    let P = plain_of f bytes in
    let rest : drop i P ≡ get_or P i 0 ∷ drop (i + 1) P =
    drop-cons P i 0 h ∙ ap (λ k. get_or P i 0 ∷ drop k P) (sym (add-one i)) in
    let a = after_one f (drop (span f i) bytes) (get_or P i 0) (drop (i + 1) P) (w.rest ∙ rest) in
    record {
      line = rw (← span_more f i 1) (omega (arith, a.within, length-drop (span f i) bytes, w.line));
      some = omega arith;
      rest = ap (λ k. plain_of f (drop k bytes)) (sym (span_more f i 1))
          ∙ ap (plain_of f) (sym (drop-drop (span f 1) (span f i) bytes)) ∙ a.rest;
    }

-- as many as there are
went : (f : Framing) (bytes : List ℕ) (i : ℕ) → i ≤ length (plain_of f bytes) → Went f bytes i
went f bytes zero h = went_none f bytes
went f bytes (suc i) h = subst (Went f bytes) (add-one i) (went_on (went f bytes i (omega arith)) (omega arith))

-- what a list begins with
got_lem : (l : List ℕ) (x : ℕ) → Some x ≡ slice_get l 0 → l ≡ x ∷ drop 1 l
got_lem [] x e = cc
got_lem (y ∷ l) x e = cc

got_none : (l : List ℕ) → None ≡ slice_get l 0 → l ≡ []
got_none [] e = refl
got_none (y ∷ l) e = cc

-- the first byte, if it stands for itself
pub first_standing : (bytes : List ℕ) {o r : Option ℕ} (Says : ℕ → Bool → Type 0) → o ≡ slice_get bytes 0
    → MatchOption o (r ≡ None) (λ x. (b : Bool) × Says x b × (r ≡ then_some b x))
    → ((x : ℕ) (b : Bool) → Says x b → b ≡ stands x) → r ≡ slice_get (standing bytes) 0
unfolding standing
first_standing [] Says e m says = MatchOption-at_none _ _ e m
first_standing (x ∷ bytes) Says e m says =
    let s = MatchOption-at_some _ _ x e m in
    s.2 ∙ rw (says x s.0 s.1) (by_test (stands x))
  where
    by_test : (t : Bool) → then_some t x ≡ slice_get (cond t (x ∷ standing bytes) []) 0
    by_test true = refl
    by_test false = refl

-- i of them were taken, and are laid in the room for them
pub record Laid (f : Framing) (bytes room : List ℕ) (i : ℕ) (now : List ℕ) : Type 0 where
  pub went : Went f bytes i
  pub is : now ≡ take i (plain_of f bytes) ++ drop i room

pub laid_first : (f : Framing) (bytes room : List ℕ) → Laid f bytes room 0 room
laid_first f bytes room = record { went = went_none f bytes; is = refl }

module _ {f : Framing} {bytes room : List ℕ} {i : ℕ} {now : List ℕ} (l : Laid f bytes room i now) where
  abbrev P : List ℕ
  P = plain_of f bytes

  many : length (take i P) ≡ i
  many = length-take-le i P l.went.some

  -- the room's size stays
  laid_sized : i ≤ length room → length now ≡ length room
  laid_sized here =
      omega (arith, ap length l.is ∙ length-append (take i P) (drop i room), many, length-drop i room)

  -- there is none more
  pub went_all : None ≡ slice_get (plain_of f (drop (span f i) bytes)) 0 → length P ≤ i
  went_all n = omega (arith, ap length (sym l.went.rest ∙ got_none _ n), length-drop i P)

  -- there are k more, and they are laid after those
  laid_more : (k : ℕ) (xs : List ℕ) → xs ≡ take k (plain_of f (drop (span f i) bytes)) → length xs ≡ k
      → Laid f bytes room (i + k) (put_mid i k now xs)
  laid_more k xs e n =
      let next : xs ≡ take k (drop i P) = e ∙ ap (take k) l.went.rest in
      let inside : i + k ≤ length P =
      omega (arith, sym n ∙ ap length next, length-take k (drop i P), length-drop i P, l.went.some) in
      let before : take i now ≡ take i P = ap (take i) l.is ∙ take_at (take i P) (drop i room) i many in
      let after : drop i now ≡ drop i room = ap (drop i) l.is ∙ drop_at (take i P) (drop i room) i many in
      record {
        went = went f bytes (i + k) inside;
        is =
            ap₂ (λ a b. a ++ (xs ++ drop k b)) before after
            ∙ ap₂ (λ a b. take i P ++ (a ++ b)) next (drop-drop k i room)
            ∙ sym (append_assoc (take i P) (take k (drop i P)) (drop (i + k) room))
            ∙ ap (λ a. a ++ drop (i + k) room) (sym (take-add i k P));
      }

  -- there are four more
  pub laid_four : (a b c d : ℕ) → a ∷ b ∷ c ∷ d ∷ [] ≡ take 4 (plain_of f (drop (span f i) bytes)) → i + 4 ≤ length room
      → Laid f bytes room (i + 4) (set (set (set (set now i a) (i + 1) b) (i + 2) c) (i + 3) d)
  laid_four a b c d e here =
      let xs = a ∷ b ∷ c ∷ d ∷ [] in
      let sized = laid_sized (omega arith) in
      let one : i + 1 ≡ suc i = omega arith in
      let two : i + 2 ≡ suc (suc i) = omega arith in
      let three : i + 3 ≡ suc (suc (suc i)) = omega arith in
      let same : set (set (set (set now i a) (suc i) b) (suc (suc i)) c) (suc (suc (suc i))) d ≡ put_mid i 4 now xs =
      sets-eq xs now i (omega arith) ∙ append_assoc (take i now) xs (drop (i + 4) now)
      ∙ ap (λ l. take i now ++ (xs ++ l)) (sym (drop-drop 4 i now)) in
      rw (one, two, three) (subst (Laid f bytes room (i + 4)) (sym same) (laid_more 4 xs e refl))

  -- there is one more
  pub laid_one : (x : ℕ) → Some x ≡ slice_get (plain_of f (drop (span f i) bytes)) 0 → i < length room
      → Laid f bytes room (i + 1) (set now i x)
  laid_one x n here =
      let sized = laid_sized (omega arith) in
      let one : x ∷ [] ≡ take 1 (plain_of f (drop (span f i) bytes)) = sym (ap (take 1) (got_lem _ x n)) in
      let same : set now i x ≡ put_mid i 1 now (x ∷ []) =
      sets-eq (x ∷ []) now i (omega arith) ∙ append_assoc (take i now) (x ∷ []) (drop (i + 1) now)
      ∙ ap (λ d. take i now ++ ((x ∷ []) ++ d)) (sym (drop-drop 1 i now)) in
      subst (Laid f bytes room (i + 1)) (sym same) (laid_more 1 (x ∷ []) one refl)

  -- so many were laid as are taken
  pub laid_taken : (most : ℕ) → i ≤ most → (length P ≤ i) ⊎ (most ≤ i) → Lays room (take most P) i now
  laid_taken most few all =
      let same : take i P ≡ take most P = by_all all in
      let n : length (take most P) ≡ i = ap length (sym same) ∙ many in
      record { count = sym n; lays = l.is ∙ rw (same, n) }
    where
      by_all : (length P ≤ i) ⊎ (most ≤ i) → take i P ≡ take most P
      by_all (inl h) = take_all i P h ∙ sym (take_all most P (omega arith))
      by_all (inr h) = let e : i ≡ most = omega arith in ap (λ k. take k P) e

-- and the other way round
pub taken_laid : {f : Framing} {bytes room after : List ℕ} {r : ℕ} → Lays room (take r (plain_of f bytes)) r after
    → Laid f bytes room r after
taken_laid {f} {bytes} {room} {after} {r} l =
    let P = plain_of f bytes in
    let there : r ≤ length P = omega (arith, l.count, length-take r P) in
    record { went = went f bytes r there; is = l.lays ∙ rw (sym l.count) }

-- ---- what an open frame takes

-- a frame of a length that is read
growth_run : (f : Framing) (n : ℕ) (frame bytes : List ℕ) → n ≤ longest + 3 → longest + 3 ≤ length frame
    → length_ok (length_of n frame (plain_of f bytes)) ≡ true
    → take (length_of n frame (plain_of f bytes) + beyond f - n) (plain_of f bytes) ≡ growth f n frame bytes
unfolding growth
growth_run f n frame bytes h j k = rw (le-leb n (longest + 3) h, le-leb (longest + 3) (length frame) j, k)

-- of any other, and where there is no room
none_taken : (t s : Bool) (l : List ℕ) → s ≡ false → cond (t && s) l [] ≡ []
none_taken true s l e = rw e
none_taken false s l e = refl

growth_bad : (f : Framing) (n : ℕ) (frame bytes : List ℕ) → length_ok (length_of n frame (plain_of f bytes)) ≡ false
    → growth f n frame bytes ≡ []
unfolding growth
growth_bad f n frame bytes k =
    none_taken (roomy n frame) _ (take (length_of n frame (plain_of f bytes) + beyond f - n) (plain_of f bytes)) k

growth_narrow : (f : Framing) (n : ℕ) (frame bytes : List ℕ) → roomy n frame ≡ false → growth f n frame bytes ≡ []
unfolding growth
growth_narrow f n frame bytes k = rw k

-- laying nothing
pub laid_none : (frame : List ℕ) (n : ℕ) → frame ≡ laid frame n []
laid_none frame n = paste-zero frame n []

-- it takes no more than the longest frame has
pub growth_few : (f : Framing) (n : ℕ) (frame bytes : List ℕ) → length (growth f n frame bytes) ≤ longest + 3
unfolding growth
growth_few f n frame bytes = by_test (roomy n frame) (length_ok (length_of n frame (plain_of f bytes))) refl
  where
    by_test : (t s : Bool) → length_ok (length_of n frame (plain_of f bytes)) ≡ s
        → length (cond (t && s)
        (take (length_of n frame (plain_of f bytes) + beyond f - n) (plain_of f bytes)) []) ≤ longest + 3
    by_test true true e =
        let L = length_of n frame (plain_of f bytes) in
        omega (arith, length-take (L + beyond f - n) (plain_of f bytes), beyond_few f, (length_ok_lem L e).few)
    by_test true false e = omega arith
    by_test false s e = omega arith

-- ---- what code does is that

-- the length byte is what the bytes that are held begin with, or else the plain ones
length_some : (l : List ℕ) (L : ℕ) → Some L ≡ slice_get l 0 → L ≡ get_or l 0 0
length_some [] L e = cc
length_some (x ∷ l) L e = cc

-- laid in the room that is left for them, they are laid after the n that are held
room_laid : (n e : ℕ) (frame plain now : List ℕ) (r : ℕ) → n ≤ e → e ≤ length frame
    → Lays (take (e - n) (drop n frame)) (take (length (take (e - n) (drop n frame))) plain) r now
    → (r ≡ length (take (e - n) plain)) × (put_mid n (e - n) frame now ≡ laid frame n (take (e - n) plain))
room_laid n e frame plain now r held size l =
    let k = e - n in
    let d = drop n frame in
    let more = take k plain in
    let room : length (take k d) ≡ k = length-take-le k d (omega (arith, length-drop n frame)) in
    let few : length more ≤ length (take k d) = omega (arith, length-take k plain) in
    let is : now ≡ more ++ drop (length more) (take k d) = l.lays ∙ rw room in (
      l.count ∙ rw room,
      ap (λ x. take n frame ++ (x ++ drop k d)) is
          ∙ ap (λ x. take n frame ++ x) (append_assoc more (drop (length more) (take k d)) (drop k d)
          ∙ ap (λ x. more ++ x) (sym (drop-append-le (length more) (take k d) (drop k d) few)
          ∙ ap (drop (length more)) (take-append-drop k d) ∙ drop-drop (length more) n frame))
          ∙ sym (append_assoc (take n frame) more (drop (n + length more) frame)),
    )

-- bytes are laid after the n that are held, and counted
pub record LaidAfter (n : ℕ) (frame more : List ℕ) (r : ℕ) (after : List ℕ) : Type 0 where
  pub count : r ≡ length more
  pub lays : after ≡ laid frame n more

-- those that a frame takes, with their number and how many bytes of the line they are
pub takes_grown : (f : Framing) (n : ℕ) (frame bytes : List ℕ) (r used : ℕ) (after : List ℕ)
    → LaidAfter n frame (growth f n frame bytes) r after → used ≡ span f r
    → TakesPlain f n frame bytes (record { count = r; used = used }) after
takes_grown f n frame bytes r used after w e = record { count = w.count; used = e ∙ ap (span f) w.count; lays = w.lays }

module _ (f : Framing) (n : ℕ) (frame bytes : List ℕ) where
  pub takes_none : (taken : Taken) → (taken.count ≡ 0) × (taken.used ≡ 0) → growth f n frame bytes ≡ []
      → TakesPlain f n frame bytes taken frame
  takes_none taken z e = record {
    count = z.0 ∙ sym (ap length e);
    used = z.1 ∙ sym (ap (λ l. span f (length l)) e ∙ span_none f);
    lays = laid_none frame n ∙ ap (laid frame n) (sym e);
  }

  -- there is no room
  pub takes_narrow : (length frame < longest + 3) ⊎ ((longest + 3 ≤ length frame) × (longest + 3 < n))
      → growth f n frame bytes ≡ []
  takes_narrow (inl h) = growth_narrow f n frame bytes (by_held (leb n (longest + 3)))
    where
      by_held : (t : Bool) → (t && leb (longest + 3) (length frame)) ≡ false
      by_held true = lt-leb (longest + 3) (length frame) h
      by_held false = refl
  takes_narrow (inr h) = growth_narrow f n frame bytes (rw (lt-leb n (longest + 3) h.1))

  -- the length is none that is read, or has not come
  pub takes_bad : (L : ℕ) → Some L ≡ slice_get (take n frame ++ plain_of f bytes) 0 → length_ok L ≡ false
      → growth f n frame bytes ≡ []
  takes_bad L e k = growth_bad f n frame bytes (ap length_ok (sym (length_some _ L e)) ∙ k)

  pub takes_unknown : None ≡ slice_get (take n frame ++ plain_of f bytes) 0 → growth f n frame bytes ≡ []
  takes_unknown e = growth_bad f n frame bytes (ap (λ l. length_ok (get_or l 0 0)) (got_none _ e))

  -- it is L, and with it the room up to the byte that decides
  pub takes_run : (L end r used : ℕ) (now : List ℕ) → end ≡ L + beyond f → used ≡ span f r → n ≤ longest + 3
      → longest + 3 ≤ length frame
      → Some L ≡ slice_get (take n frame ++ plain_of f bytes) 0 → length_ok L ≡ true → n ≤ end
      → (let room : List ℕ = take (end - n) (drop n frame) in
      Lays room (take (length room) (plain_of f bytes)) r now)
      → TakesPlain f n frame bytes (record { count = r; used = used }) (put_mid n (end - n) frame now)
  takes_run L end r used now at u held size e k left l =
      let is = length_some _ L e in
      let few = (length_ok_lem L k).few in
      let grown = ap (λ x. take (x - n) (plain_of f bytes)) (at ∙ ap (λ x. x + beyond f) is)
      ∙ growth_run f n frame bytes held size (ap length_ok (sym is) ∙ k) in
      let t = room_laid n end frame (plain_of f bytes) now r left (omega (arith, at, beyond_few f)) l in
      takes_grown f n frame bytes r used (put_mid n (end - n) frame now)
      (record { count = t.0 ∙ ap length grown; lays = t.1 ∙ ap (laid frame n) grown }) u

  -- and all that it takes stand there
  pub takes_all : (L : ℕ) → n ≤ longest + 3 → longest + 3 ≤ length frame
      → Some L ≡ slice_get (take n frame ++ plain_of f bytes) 0 → length_ok L ≡ true → L + beyond f ≤ n
      → growth f n frame bytes ≡ []
  takes_all L held size e k full =
      let is = length_some _ L e in
      let none : L + beyond f - n ≡ 0 = omega arith in
      sym (growth_run f n frame bytes held size (ap length_ok (sym is) ∙ k))
      ∙ ap (λ x. take (x + beyond f - n) (plain_of f bytes)) (sym is) ∙ ap (λ x. take x (plain_of f bytes)) none

-- ---- for the reader

-- a frame of a length that is read takes what comes plainly, up to the byte that decides
pub record Grew (f : Framing) (n : ℕ) (frame bytes : List ℕ) : Type 0 where
  pub known : length_ok (length_of n frame (plain_of f bytes)) ≡ true
  pub is : growth f n frame bytes ≡ take (length_of n frame (plain_of f bytes) + beyond f - n) (plain_of f bytes)

-- and else nothing
pub grew : (f : Framing) (n : ℕ) (frame bytes : List ℕ) → (growth f n frame bytes ≡ []) ⊎ Grew f n frame bytes
unfolding growth
grew f n frame bytes = by_test (roomy n frame) refl (length_ok (length_of n frame (plain_of f bytes))) refl
  where
    by_test : (t : Bool) → roomy n frame ≡ t → (s : Bool) → length_ok (length_of n frame (plain_of f bytes)) ≡ s
        → (growth f n frame bytes ≡ []) ⊎ Grew f n frame bytes
    by_test true e true k = inr (record { known = k; is = rw (e, k) })
    by_test true e false k = inl (rw (e, k))
    by_test false e s k = inl (rw e)

-- k of them are within the bytes that they are taken from
pub within : (f : Framing) (k : ℕ) (bs plain : List ℕ) → plain_of f bs ≡ plain → k ≤ length plain → span f k ≤ length bs
within f zero bs plain e h = omega (arith, span_none f)
within f (suc k) bs [] e h = absurd (omega arith)
within f (suc k) bs (x ∷ plain) e h =
    let a = after_one f bs x plain e in
    let later = within f k (drop (span f 1) bs) plain a.rest (omega arith) in
    let n : span f 1 + span f k ≡ span f (suc k) = span_more f 1 k ∙ ap (span f) (omega arith) in
    omega (arith, n, later, a.within, length-drop (span f 1) bs)
