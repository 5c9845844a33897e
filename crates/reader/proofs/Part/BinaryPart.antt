-- How one byte bears on the judgement of a binary part. Assumes nothing.
use Prim.Native.Nat.{ℕ, suc, ◌+◌, ◌≤◌}
use native.Mathlib.Omega.{arith}
use mathlib.Core.Path.{◌≡◌, refl, sym, ap, ◌∙◌}
use mathlib.Core.Bool.{Bool, true, false, false≢true}
use mathlib.Core.Option.{none, some}
use mathlib.Core.List.{List, [], ◌∷◌, ◌++◌, append-nil}
use lib.Bits.{bit_xor}
use lib.Dec.{eqb, ltb}
use lib.ListN.{length, length-append}
use lib.Seq.{append_snoc}
use borrow.Author.Tests.{ltb-true, ltb-false}
use Rattle.standard.specs.declared.Framing.TheVariants.{Binary}
use Rattle.standard.specs.declared.Escapes.{Escapes}
use Rattle.standard.specs.declared.Escapes.TheVariants.{Strict, Lenient}
use Rattle.standard.specs.Messages.{length_ok}
use Rattle.standard.proofs.Messages.{length_ok_lem}
use Rattle.standard.specs.Framing.{Recovered, also, may_follow, stopped, unstuff}
use Rattle.standard.specs.Judge.{handing, decided, unfinished, plain, ended, whole_of}
use Rattle.standard.proofs.Decided.{whole_front}
use Rattle.standard.proofs.Refusals.{of_the_stream, up_to_8}
use Rattle.reader.specs.declared.Mode.{Mode}
use Rattle.reader.specs.declared.Mode.TheVariants.{Open, Escape}
use Rattle.reader.specs.Step.{framing_of, goes, ends, takes, goes_on}
use Rattle.reader.proofs.State.Soundness.{Few, Fits, few_held}
use Rattle.reader.proofs.Part.Frames.{length_snoc, by_test, frame_bad, frame_short, frame_full, whole_stands}
use Rattle.reader.proofs.Part.Frames.{whole_sheet}
use Rattle.reader.proofs.Part.Judging.{given, left_of, is_open, Does, on, over}

-- the byte b gives back x: the length, a byte of the message or a sum, or the last sum
takes_binary : (rule : Escapes) (m : Mode) (held : List ℕ) (b x : ℕ) → is_open m ≡ true → framing_of m ≡ Binary
    → (Fits m held → Few 2 held)
    → ((q : List ℕ) → left_of rule m held (b ∷ q) ≡ given held (also x (unstuff rule false q)))
    → Does rule m held b (takes Binary held x)
takes_binary rule m [] b x o f few back =
    by_test (Does rule m [] b) (length_ok x) (goes (Open Binary) (x ∷ [])) (ends Binary (handing 4 []) [])
    (λ e. on (record {
      was = o;
      is = refl;
      framing = sym f;
      grown = omega arith;
      fits = λ k. ((e, omega arith), refl);
      left = λ k q. back q;
    }))
    (λ e. over (record {
      was = o;
      framing = sym f;
      grown = omega arith;
      few = λ k. omega arith;
      stands = λ more. refl;
      sheet = up_to_8 rule (omega arith);
      left = λ k q. back q
          ∙ frame_bad x (unstuff rule false q).bytes (unstuff rule false q).fault (ended Binary []) e;
    }))
takes_binary rule m (L ∷ rest) b x o f few back =
    let all = rest ++ (x ∷ []) in
    let grown : length (L ∷ rest) ≤ length (L ∷ all) = omega (arith, length_snoc rest x) in
    by_test (Does rule m (L ∷ rest) b) (ltb (suc (length rest)) (L + 2)) (goes (Open Binary) (L ∷ all))
    (ends Binary (whole_of [] L all) (L ∷ all))
    (λ e. on (record {
      was = o;
      is = refl;
      framing = sym f;
      grown = grown;
      fits = λ k. (((few k).0, omega (arith, length_snoc rest x, ltb-true)), refl);
      left = λ k q. back q ∙ rw (append_snoc rest x (unstuff rule false q).bytes);
    }))
    (λ e.
    let long : L + 2 ≤ length all = omega (arith, length_snoc rest x, ltb-false) in
    over (record {
      was = o;
      framing = sym f;
      grown = grown;
      few = λ k. omega (arith, length_snoc rest x, (few k).1, (length_ok_lem L (few k).0).few);
      stands = whole_stands [] L all;
      sheet = up_to_8 rule (whole_sheet [] L all refl);
      left = λ k q. back q ∙ ended_here k (unstuff rule false q) long;
    }))
  where
    ended_here : Fits m (L ∷ rest) → (u : Recovered) → L + 2 ≤ length (rest ++ (x ∷ []))
        → given (L ∷ rest) (also x u) ≡ decided (whole_of [] L (rest ++ (x ∷ [])))
    ended_here k u long =
        let all = rest ++ (x ∷ []) in
        let longer : L + 2 ≤ length (all ++ u.bytes) = omega (arith, length-append all u.bytes) in
        rw (← append_snoc rest x u.bytes)
        (frame_full L (all ++ u.bytes) u.fault (ended Binary []) (few k).0 longer
        ∙ ap decided (whole_front [] L all u.bytes long))

-- a byte with no 7Dh before it
pub binary : (rule : Escapes) (held : List ℕ) (b : ℕ)
    → Does rule (Open Binary) held b (goes_on rule (Open Binary) held b)
unfolding unstuff
binary rule held b =
    by_test (Does rule (Open Binary) held b) (eqb b 0x7D) (goes Escape held) (takes Binary held b)
    (λ e. on (record { was = refl; is = refl; framing = refl; grown = omega arith; fits = λ k. k; left = λ k q. rw e }))
    (λ e. takes_binary rule (Open Binary) held b b refl refl (λ k. k.0) (λ q. rw e))

-- 15 at a byte that may not follow a 7Dh: nothing was recovered from the two
bad_escape : (held : List ℕ) → Few 2 held → given held (stopped 15) ≡ plain 15
bad_escape [] k = refl
bad_escape (L ∷ rest) k = rw (append-nil rest) (frame_short L rest (some 15) (ended Binary []) k.0 k.1)

-- which only the strict rule gives
strict_sheet : (rule : Escapes) (b : ℕ) → may_follow rule b ≡ false → of_the_stream rule 15 ≡ true
strict_sheet Strict b e = refl
strict_sheet Lenient b e = absurd (false≢true (sym e))

-- a byte after a 7Dh
pub escaped : (rule : Escapes) (held : List ℕ) (b : ℕ) → Does rule Escape held b (goes_on rule Escape held b)
unfolding unstuff
escaped rule held b =
    by_test (Does rule Escape held b) (may_follow rule b) (takes Binary held (bit_xor b 0x20))
    (ends Binary (handing 15 []) held)
    (λ e. takes_binary rule Escape held b _ refl refl (λ k. k.0) (λ q. rw e))
    (λ e. over (record {
      was = refl;
      framing = refl;
      grown = omega arith;
      few = few_held Escape held;
      stands = λ more. refl;
      sheet = strict_sheet rule b e;
      left = λ k q. rw e (bad_escape held k.0);
    }))

-- a frame that nothing follows is unfinished
pub binary_end : (rule : Escapes) (held : List ℕ) (escape : Bool) → Few 2 held
    → given held (unstuff rule escape []) ≡ unfinished
unfolding unstuff
binary_end rule [] escape k = refl
binary_end rule (L ∷ rest) escape k = rw (append-nil rest) (frame_short L rest none (ended Binary []) k.0 k.1)
