-- How one byte bears on the judgement of an ASCII part. Assumes nothing.
use Prim.Native.Nat.{ℕ, suc, ◌+◌, ◌-◌, ◌*◌, ◌≤◌, ◌<◌}
use native.Mathlib.Nat.{sub-zero}
use native.Mathlib.Omega.{arith}
use mathlib.Core.Path.{◌≡◌, refl, sym, ap, ◌∙◌}
use mathlib.Core.Bool.{Bool, true, false, not}
use mathlib.Core.Option.{Option, none, some}
use mathlib.Core.List.{List, [], ◌∷◌, ◌++◌, append-nil}
use lib.Dec.{eqb, leb, leb-suc-suc}
use lib.ListN.{length, drop, length-append}
use lib.Seq.{append_snoc}
use borrow.Author.Tests.{leb-true, leb-false, le-leb, lt-ltb}
use Rattle.standard.specs.declared.Framing.TheVariants.{Ascii}
use Rattle.standard.specs.declared.Escapes.{Escapes}
use Rattle.standard.specs.Messages.{length_ok}
use Rattle.standard.specs.Framing.{value_of, digits_of, pairs, no_digit}
use Rattle.standard.specs.Judge.{handing, decided, unfinished, plain, whole_of, at_stop, ended, frame_judged, judge_after}
use Rattle.standard.proofs.Framings.{digit_value}
use Rattle.standard.proofs.Decided.{whole_front}
use Rattle.standard.proofs.Refusals.{up_to_8}
use Rattle.reader.specs.declared.Mode.{Mode}
use Rattle.reader.specs.declared.Mode.TheVariants.{Open, Digit}
use Rattle.reader.specs.Step.{framing_of, goes, ends, takes, takes_digit, goes_on}
use Rattle.reader.proofs.State.Soundness.{Few, Fits, few_held}
use Rattle.reader.proofs.Part.Frames.{length_snoc, by_test, frame_bad, frame_short, frame_full, frame_end}
use Rattle.reader.proofs.Part.Frames.{whole_stands, whole_sheet}
use Rattle.reader.proofs.Part.Judging.{and_pending, spent, end_from, spelt, left_of, is_open, On, Over, Does, on}
use Rattle.reader.proofs.Part.Judging.{over}

-- ---- where the stop is due

-- the byte at its place decides, if there is one
at_stop_lem : (L : ℕ) (rest more q : List ℕ) (fault : Option ℕ) → length_ok L ≡ true → length rest ≡ L + 2
    → frame_judged (L ∷ rest ++ more) fault (end_from (2 * suc (length rest)) q) ≡ at_stop q L (rest ++ more)
at_stop_lem L rest more q fault h e =
    let long : L + 2 ≤ length (rest ++ more) = omega (arith, length-append rest more) in
    let none_left : 2 * (L + 3) - 2 * suc (length rest) ≡ 0 = omega arith in
    frame_full L (rest ++ more) fault (end_from (2 * suc (length rest)) q) h long ∙ rw none_left

-- a frame that nothing follows is unfinished
pub ascii_end : (held : List ℕ) → Few 3 held → spelt none held [] ≡ unfinished
unfolding digits_of pairs
ascii_end [] k = refl
ascii_end (L ∷ rest) k = by_length (leb (L + 2) (length rest)) refl
  where
    by_length : (t : Bool) → leb (L + 2) (length rest) ≡ t → spelt none (L ∷ rest) [] ≡ unfinished
    by_length true e = at_stop_lem L rest [] [] none k.0 (omega (arith, leb-true))
    by_length false e =
        rw (append-nil rest)
        (frame_short L rest none (end_from (2 * suc (length rest)) []) k.0 (omega (arith, leb-false)))

pub digit_end : (held : List ℕ) (d : ℕ) → Few 2 held → spelt (some d) held [] ≡ unfinished
unfolding digits_of pairs
digit_end [] d k = refl
digit_end (L ∷ rest) d k =
    rw (append-nil rest) (frame_short L rest none (end_from (2 * suc (length rest) + 1) []) k.0 k.1)

-- from the start on it is the judgement of the part
pub ascii_new : (rule : Escapes) (q : List ℕ) → spelt none [] q ≡ judge_after rule Ascii q
ascii_new rule q =
    frame_end (pairs (digits_of q)) (no_digit q) (end_from (2 * 0) q) (ended Ascii q)
    (λ L rest e. rw (sub-zero (2 * (L + 3))))

-- ---- where a digit is due

no_pair : (high : Option ℕ) → pairs (and_pending high []) ≡ []
unfolding pairs
no_pair none = refl
no_pair (some h) = refl

no_digit_lem : (held : List ℕ) (high : Option ℕ) (b : ℕ) → Few 2 held → value_of b ≡ none → (q : List ℕ)
    → spelt high held (b ∷ q) ≡ plain 2
unfolding digits_of
no_digit_lem [] high b k e q = rw (e, no_pair high, lt-ltb 0 (suc (length q)) (omega arith))
no_digit_lem (L ∷ rest) high b k e q =
    rw (e, no_pair high, lt-ltb 0 (suc (length q)) (omega arith), append-nil rest)
    (frame_short L rest (some 2) (end_from (spent (L ∷ rest) high) (b ∷ q)) k.0 k.1)

-- one character more is spent
drop_one : (n k b : ℕ) (q : List ℕ) → k < n → drop (n - k) (b ∷ q) ≡ drop (n - (k + 1)) q
drop_one n k b q h =
    let e : n - k ≡ suc (n - (k + 1)) = omega arith in
    rw e

below : (held : List ℕ) (high : Option ℕ) (more : List ℕ) → Few 2 held → (L : ℕ) (rest : List ℕ)
    → held ++ more ≡ L ∷ rest
    → spent held high < 2 * (L + 3)
below [] none more k L rest e = omega arith
below [] (some h) more k L rest e = omega arith
below (L' ∷ m) none more k L rest e = let s : L' ≡ L = cc in omega arith
below (L' ∷ m) (some h) more k L rest e = let s : L' ≡ L = cc in omega arith

spend : (held : List ℕ) (high : Option ℕ) (b d : ℕ) (q : List ℕ) → Few 2 held → value_of b ≡ some d
    → spelt high held (b ∷ q)
    ≡ frame_judged (held ++ pairs (and_pending high (d ∷ digits_of q))) (no_digit q) (end_from (spent held high + 1) q)
unfolding digits_of
spend held high b d q k e =
    let bytes = pairs (and_pending high (d ∷ digits_of q)) in
    rw (e, leb-suc-suc (suc (length (digits_of q))) (length q))
    (frame_end (held ++ bytes) (no_digit q) (end_from (spent held high) (b ∷ q)) (end_from (spent held high + 1) q)
    (λ L rest s. rw (drop_one (2 * (L + 3)) (spent held high) b q (below held high bytes k L rest s))))

-- ---- one byte

-- two digits make a byte: the length, or one after it
paired : (rule : Escapes) (held : List ℕ) (h d b : ℕ) → value_of b ≡ some d
    → Does rule (Digit h) held b (takes Ascii held (h * 16 + d))
unfolding pairs
paired rule [] h d b e =
    let x = h * 16 + d in
    by_test (Does rule (Digit h) [] b) (length_ok x) (goes (Open Ascii) (x ∷ [])) (ends Ascii (handing 4 []) [])
    (λ l. on (record {
      was = refl;
      is = refl;
      framing = refl;
      grown = omega arith;
      fits = λ k. ((l, omega arith), refl);
      left = λ k q. spend [] (some h) b d q tt e;
    }))
    (λ l. over (record {
      was = refl;
      framing = refl;
      grown = omega arith;
      few = λ k. omega arith;
      stands = λ m. refl;
      sheet = up_to_8 rule (omega arith);
      left = λ k q. spend [] (some h) b d q tt e ∙ frame_bad x (pairs (digits_of q)) (no_digit q) (end_from 2 q) l;
    }))
paired rule (L ∷ rest) h d b e =
    let x = h * 16 + d in
    let two : 2 * suc (suc (length rest)) ≡ 2 * suc (length rest) + 1 + 1 = omega arith in
    let goes_on : On rule (Digit h) (L ∷ rest) b (Open Ascii) (L ∷ rest ++ (x ∷ [])) = record {
      was = refl;
      is = refl;
      framing = refl;
      grown = omega (arith, length_snoc rest x);
      fits = λ k. ((k.0.0, omega (arith, length_snoc rest x, k.0.1)), refl);
      left = λ k q.
          spend (L ∷ rest) (some h) b d q k.0 e
          ∙ rw (append_snoc rest x (pairs (digits_of q)), length_snoc rest x, two);
    } in
    on goes_on

-- no digit where one is due
none_due : (rule : Escapes) (m : Mode) (high : Option ℕ) (held : List ℕ) (b : ℕ)
    → ((q : List ℕ) → left_of rule m held q ≡ spelt high held q)
    → is_open m ≡ true → framing_of m ≡ Ascii → (Fits m held → Few 2 held) → value_of b ≡ none
    → Does rule m held b (ends Ascii (handing 2 []) held)
none_due rule m high held b same o f few e =
    let decides : Over rule m held b Ascii (handing 2 []) held = record {
      was = o;
      framing = sym f;
      grown = omega arith;
      few = few_held m held;
      stands = λ m. refl;
      sheet = up_to_8 rule (omega arith);
      left = λ k q. same (b ∷ q) ∙ no_digit_lem held high b (few k) e q;
    } in
    over decides

-- the first digit of a pair
digit_due : (rule : Escapes) (held : List ℕ) (b : ℕ) → (Few 3 held → Few 2 held) → (o : Option ℕ) → value_of b ≡ o
    → Does rule (Open Ascii) held b (takes_digit none held o)
digit_due rule held b few none e = none_due rule (Open Ascii) none held b (λ q. refl) refl refl (λ k. few k.0) e
digit_due rule held b few (some d) e =
    let goes_on : On rule (Open Ascii) held b (Digit d) held = record {
      was = refl;
      is = refl;
      framing = refl;
      grown = omega arith;
      fits = λ k. (few k.0, le-leb d 15 (omega (arith, (digit_value b d e).small)));
      left = λ k q. spend held none b d q (few k.0) e;
    } in
    on goes_on

-- the second
second_due : (rule : Escapes) (held : List ℕ) (h b : ℕ) (o : Option ℕ) → value_of b ≡ o
    → Does rule (Digit h) held b (takes_digit (some h) held o)
second_due rule held h b none e = none_due rule (Digit h) (some h) held b (λ q. refl) refl refl (λ k. k.0) e
second_due rule held h b (some d) e = paired rule held h d b e

-- a byte with a digit pending
pub digit : (rule : Escapes) (held : List ℕ) (h b : ℕ) → Does rule (Digit h) held b (goes_on rule (Digit h) held b)
digit rule held h b = second_due rule held h b (value_of b) refl

-- a byte with none pending
pub ascii : (rule : Escapes) (held : List ℕ) (b : ℕ) → Does rule (Open Ascii) held b (goes_on rule (Open Ascii) held b)
unfolding pairs digits_of
ascii rule [] b = digit_due rule [] b (λ k. tt) (value_of b) refl
ascii rule (L ∷ rest) b =
    let stop : List (Bool × ℕ) = (not (eqb b 0x0D), 3) ∷ [] in
    by_test (Does rule (Open Ascii) (L ∷ rest) b) (leb (L + 2) (length rest))
    (ends Ascii (whole_of stop L rest) (L ∷ rest))
    (takes_digit none (L ∷ rest) (value_of b))
    (λ e. over (record {
      was = refl;
      framing = refl;
      grown = omega arith;
      few = few_held (Open Ascii) (L ∷ rest);
      stands = whole_stands stop L rest;
      sheet = up_to_8 rule (whole_sheet stop L rest refl);
      left = λ k q.
          let due : length rest ≡ L + 2 = omega (arith, leb-true, k.0.1) in
          at_stop_lem L rest (pairs (digits_of (b ∷ q))) (b ∷ q) (no_digit (b ∷ q)) k.0.0 due
          ∙ ap decided (whole_front stop L rest (pairs (digits_of (b ∷ q))) (omega arith));
    }))
    (λ e. digit_due rule (L ∷ rest) b (λ k. (k.0, omega (arith, leb-false))) (value_of b) refl)
