-- What a stream hands out: an intact frame is reported whatever stands before and after it, and every start byte has
-- one verdict. And "at most one verdict" by its verdicts. Assumes nothing.
use Prim.Native.Nat.{ℕ, suc, ◌+◌}
use native.Mathlib.Omega.{arith}
use mathlib.Core.Path.{◌≡◌, refl, ap, ap₂, ◌∙◌}
use mathlib.Core.Bool.{Bool, true, false, cond, ◌||◌}
use mathlib.Core.List.{List, [], ◌∷◌, ◌++◌, append-nil, cons≢nil, nil≢cons, head-eq_of_cons-eq}
use lib.Dec.{eqb}
use lib.ListN.{length, length-append}
use Rattle.standard.specs.declared.Framing.{Framing}
use Rattle.standard.specs.declared.Framing.TheVariants.{Binary, Ascii}
use Rattle.standard.specs.declared.Escapes.{Escapes}
use Rattle.std.specs.Prelude.{Option}
use Rattle.standard.specs.declared.Verdict.{Verdict}
use Rattle.std.specs.Prelude.{Some, None}
use Rattle.standard.specs.Messages.{length_ok, among, check_of}
use Rattle.standard.specs.Framing.{start_of, stop_of, coding, body_of, frame_of}
use Rattle.standard.specs.Judge.{Judged, decided, unfinished, handing, judge, verdicts_in}
use Rattle.standard.specs.Stream.{up_to_start, parts_of, part_hands, parts_hand, handed_of, starts_of, open_of, last_open}
use Rattle.standard.proofs.Framings.{Bytes, body_bytes, among_append, start, no_mark}
use Rattle.standard.proofs.Messages.{good_length}
use Rattle.standard.proofs.Judge.{judge_every}
use Rattle.standard.proofs.Decided.{handed_part, handed_amid_part}

-- the verdicts tell the case and its values
pub verdicts_same : (x y : Option Verdict) → verdicts_in x ≡ verdicts_in y → x ≡ y
verdicts_same None None e = refl
verdicts_same None (Some v) e = absurd (nil≢cons e)
verdicts_same (Some v) None e = absurd (cons≢nil e)
verdicts_same (Some v) (Some w) e = ap Some (head-eq_of_cons-eq e)

-- ---- an intact frame

-- no start in a frame but its own
pub no_start : (f : Framing) (m : List ℕ) → among (start_of f) (coding f (body_of m) ++ stop_of f) ≡ false
no_start f m =
    among_append (start_of f) (coding f (body_of m)) (stop_of f)
    ∙ ap₂ ◌||◌ (no_mark f (body_of m) (start_of f) (start f)) (no_stop f)
  where
    no_stop : (f : Framing) → among (start_of f) (stop_of f) ≡ false
    no_stop Binary = refl
    no_stop Ascii = refl

-- so it is a part that is decided
judged : (rule : Escapes) (f : Framing) (m : List ℕ) → length_ok (length m) ≡ true → Bytes m
    → judge rule f (start_of f ∷ coding f (body_of m) ++ stop_of f) ≡ decided (handing (check_of m) m)
unfolding frame_of
judged rule f m h b = rw append-nil at (judge_every rule f m [] h (body_bytes m h b))

judged_good : (rule : Escapes) (f : Framing) (m : List ℕ) → check_of m ≡ 0 → Bytes m
    → judge rule f (start_of f ∷ coding f (body_of m) ++ stop_of f) ≡ decided (handing 0 m)
judged_good rule f m h b = judged rule f m (good_length m h) b ∙ ap (λ (n : ℕ). decided (handing n m)) h

-- it hands out its message, and then what follows it hands out its own
pub handed_frame : (rule : Escapes) (f : Framing) (m q : List ℕ) → check_of m ≡ 0 → Bytes m
    → handed_of rule f (frame_of f m ++ q) ≡ handing 0 m ∷ handed_of rule f q
unfolding frame_of
handed_frame rule f m q h b =
    handed_part rule f (coding f (body_of m) ++ stop_of f) q (handing 0 m) (no_start f m) (judged_good rule f m h b)

-- WHATEVER STANDS BEFORE AND AFTER IT: the bytes before are as if its start byte were their last
pub handed_every : (rule : Escapes) (f : Framing) (p m q : List ℕ) → length_ok (length m) ≡ true → Bytes m
    → handed_of rule f (p ++ (frame_of f m ++ q))
    ≡ handed_of rule f (p ++ (start_of f ∷ [])) ++ (handing (check_of m) m ∷ handed_of rule f q)
unfolding frame_of
handed_every rule f p m q h b =
    handed_amid_part rule f p (coding f (body_of m) ++ stop_of f) q (handing (check_of m) m) (no_start f m)
    (judged rule f m h b)

pub handed_amid : (rule : Escapes) (f : Framing) (p m q : List ℕ) → check_of m ≡ 0 → Bytes m
    → handed_of rule f (p ++ (frame_of f m ++ q))
    ≡ handed_of rule f (p ++ (start_of f ∷ [])) ++ (handing 0 m ∷ handed_of rule f q)
handed_amid rule f p m q h b =
    handed_every rule f p m q (good_length m h) b
    ∙ ap (λ (n : ℕ). handed_of rule f (p ++ (start_of f ∷ [])) ++ (handing n m ∷ handed_of rule f q)) h

-- ---- how many verdicts

one_each : (j : Judged) (later : List (List ℕ)) → length (part_hands j later) + open_of j later ≡ 1
one_each (decided h) later = refl
one_each unfinished [] = refl
one_each unfinished (part ∷ later) = refl

parts_count : (rule : Escapes) (f : Framing) (ps : List (List ℕ))
    → length (parts_hand rule f ps) + last_open rule f ps ≡ length ps
parts_count rule f [] = refl
parts_count rule f (p ∷ ps) =
    omega (
      arith,
      length-append (part_hands (judge rule f p) ps) (parts_hand rule f ps),
      one_each (judge rule f p) ps,
      parts_count rule f ps,
    )

parts_starts : (x : ℕ) (bs : List ℕ) → length (parts_of x bs) ≡ starts_of x bs
parts_starts x [] = refl
parts_starts x (b ∷ bs) = by_case (eqb b x) (parts_starts x bs)
  where
    by_case : (t : Bool) → length (parts_of x bs) ≡ starts_of x bs
        → length (cond t ((b ∷ up_to_start x bs) ∷ parts_of x bs) (parts_of x bs))
        ≡ cond t (suc (starts_of x bs)) (starts_of x bs)
    by_case true h = ap suc h
    by_case false h = h

-- every start byte has one verdict, but for the last if its frame is still open at the end
pub verdicts_count : (rule : Escapes) (f : Framing) (bs : List ℕ)
    → length (handed_of rule f bs) + last_open rule f (parts_of (start_of f) bs) ≡ starts_of (start_of f) bs
verdicts_count rule f bs = parts_count rule f (parts_of (start_of f) bs) ∙ parts_starts (start_of f) bs
