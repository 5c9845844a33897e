-- The verdict on a whole frame as the code comes to it: from the sums and the check of the message, by places in the
-- frame's bytes. Assumes nothing.
use Rattle.std.proofs.Common.{◌≡◌, ℕ, ◌+◌, ◌-◌, ◌<◌, Bool, true, false, cond, not, eqb, List, [], ◌∷◌, length, get_or, take, drop, sym, refl, ap, add-one, arith, length-take-le, get_or-take, le-ltb, lt-ltb, eq-eqb, ne_eqb}
use Rattle.standard.specs.declared.Sums.{Sums}
use Rattle.std.specs.Prelude.{None, Some}
use Rattle.standard.specs.Words.{byte, first_of}
use Rattle.standard.specs.Sums.{sums_of}
use Rattle.standard.specs.Messages.{length_ok, number_of, length_for, values_ok, check_of}
use Rattle.standard.specs.Judge.{decided, carries_type, handing, sums_differ, whole_of, verdict_for}
use Rattle.standard.proofs.Messages.{length_ok_lem, check_after}
use Rattle.frames.specs.Judging.{judged_frame, judged_of, said_of}
use Rattle.frames.specs.Parts.{Complete}

-- a message of a length that is read is refused with its type byte
by_tests : (unknown other wrong : Bool) → carries_type (first_of ((unknown, 6) ∷ (other, 7) ∷ (wrong, 8) ∷ [])) ≡ true
by_tests true other wrong = refl
by_tests false true wrong = refl
by_tests false false true = refl
by_tests false false false = refl

carries : (m : List ℕ) → length_ok (length m) ≡ true → carries_type (check_of m) ≡ true
unfolding check_of
carries m h =
    rw h
    (by_tests (not (not (eqb (length_for (byte 1 m)) 0))) (not (eqb (length m) (length_for (byte 1 m))))
    (not (values_ok (number_of (byte 1 m)) m)))

-- the judgement by the sums, then by the message
judged : (L : ℕ) (rest : List ℕ)
    → judged_of (L ∷ rest) ≡ handing (cond (sums_differ L rest) 5 (check_of (take L rest))) (take L rest)
unfolding whole_of
judged L rest = ap (λ n. handing n (take L rest)) (check_after (sums_differ L rest) 5 (take L rest))

-- as code has a frame: the place after the message, the sums up to there, and the check of the message
abbrev pub end : List ℕ → ℕ
end frame = get_or frame 0 0 + 1

abbrev pub summed : List ℕ → Sums
summed frame = sums_of (take (end frame) frame)

abbrev pub checked : List ℕ → ℕ
checked frame = check_of (take (end frame - 1) (drop 1 frame))

place : (L k : ℕ) (rest : List ℕ) → get_or (L ∷ rest) (k + 1) 0 ≡ get_or rest k 0
place L k rest = ap (λ n. get_or (L ∷ rest) n 0) (add-one k)

front : (L : ℕ) (rest : List ℕ) → take (L + 1) (L ∷ rest) ≡ L ∷ take L rest
front L rest = ap (λ n. take n (L ∷ rest)) (add-one L)

-- the sums differ
pub wrong_one : (frame : List ℕ) → Complete frame → (get_or frame (end frame) 0 ≡ (summed frame).one → ⊥)
    → verdict_for (handing 5 []) ≡ verdict_for (judged_of frame)
wrong_one [] w h = absurd (omega (arith, w.all))
wrong_one (L ∷ rest) w h =
    rw (judged L rest, ne_eqb (get_or rest L 0) (sums_of (L ∷ take L rest)).one (rw (place L L rest, front L rest) at h))

pub wrong_two : (frame : List ℕ) → Complete frame → get_or frame (end frame) 0 ≡ (summed frame).one
    → (get_or frame (end frame + 1) 0 ≡ (summed frame).two → ⊥)
    → verdict_for (handing 5 []) ≡ verdict_for (judged_of frame)
wrong_two [] w e h = absurd (omega (arith, w.all))
wrong_two (L ∷ rest) w e h =
    rw (
      judged L rest,
      eq-eqb (get_or rest L 0) (sums_of (L ∷ take L rest)).one (rw (place L L rest, front L rest) at e),
      ne_eqb (get_or rest (L + 1) 0) (sums_of (L ∷ take L rest)).two (rw (place L (L + 1) rest, front L rest) at h),
    )

-- they do not: the message decides
pub by_message : (frame : List ℕ) → Complete frame → get_or frame (end frame) 0 ≡ (summed frame).one
    → get_or frame (end frame + 1) 0 ≡ (summed frame).two
    → record {
      number = checked frame;
      type_byte = get_or frame 1 0;
      length = cond (eqb (checked frame) 0)
          (get_or frame 0 0) 0;
    } ≡ verdict_for (judged_of frame)
by_message [] w e h = absurd (omega (arith, w.all))
by_message (L ∷ rest) w e h =
    let k = length_ok_lem L w.known in
    let all : length (take L rest) ≡ L = length-take-le L rest (omega (arith, w.all)) in
    let carried : carries_type (check_of (take L rest)) ≡ true = carries (take L rest) (rw all w.known) in
    let same : L + 1 - 1 ≡ L = omega arith in
    rw (
      judged L rest,
      eq-eqb (get_or rest L 0) (sums_of (L ∷ take L rest)).one (rw (place L L rest, front L rest) at e),
      eq-eqb (get_or rest (L + 1) 0) (sums_of (L ∷ take L rest)).two (rw (place L (L + 1) rest, front L rest) at h),
      same,
      carried,
      get_or-take L rest 0 0 (omega (arith, k.some)),
      by_good (eqb (check_of (take L rest)) 0) (take L rest) L all,
    )
  where
    by_good : (good : Bool) (m : List ℕ) (n : ℕ) → length m ≡ n → length (cond good m []) ≡ cond good n 0
    by_good true m n e = e
    by_good false m n e = refl

-- ---- which frames are judged

pub judged_whole : (frame : List ℕ) → Complete frame → judged_frame frame ≡ decided (judged_of frame)
judged_whole [] w = absurd (omega (arith, w.all))
judged_whole (L ∷ rest) w = rw (w.known, le-ltb (length rest) (L + 2) (omega (arith, w.all)))

pub said_whole : (frame : List ℕ) → Complete frame → Some (verdict_for (judged_of frame)) ≡ said_of (judged_frame frame)
said_whole frame w = ap said_of (sym (judged_whole frame w))

-- with no byte it is silent
pub said_none : (frame : List ℕ) → length frame ≡ 0 → None ≡ said_of (judged_frame frame)
said_none [] e = refl
said_none (L ∷ rest) e = absurd (omega arith)

-- where the length is none that is read it says 4
pub said_four : (frame : List ℕ) → (length frame ≡ 0 → ⊥) → length_ok (get_or frame 0 0) ≡ false
    → Some (verdict_for (handing 4 [])) ≡ said_of (judged_frame frame)
said_four [] e h = absurd (e refl)
said_four (L ∷ rest) e h = rw h

-- while bytes are still to come it is silent
pub said_short : (frame : List ℕ) → length_ok (get_or frame 0 0) ≡ true → length frame < get_or frame 0 0 + 3
    → None ≡ said_of (judged_frame frame)
said_short [] h k = refl
said_short (L ∷ rest) h k = rw (h, lt-ltb (length rest) (L + 2) (omega arith))
