-- Plain bytes at once: a reader that steps through those that an open frame takes comes to the same. One law for both
-- framings. Assumes nothing.
use Prim.Native.Nat.{ℕ, zero, suc, ◌+◌, ◌*◌, ◌≤◌, ◌<◌}
use native.Mathlib.Nat.{zero-add, add_assoc}
use native.Mathlib.Omega.{arith}
use mathlib.Core.Path.{◌≡◌, refl, sym, ap, ◌∙◌}
use mathlib.Core.Bool.{true, false, cond}
use mathlib.Core.Option.{Option, none, some}
use mathlib.Core.List.{List, [], ◌∷◌, ◌++◌, append-nil, cons≢nil}
use lib.ListN.{length, get_or, take, drop}
use lib.Seq.{append_snoc, drop-drop}
use borrow.Author.Tests.{ne_eqb}
use Rattle.standard.specs.declared.Framing.{Framing}
use Rattle.standard.specs.declared.Framing.TheVariants.{Binary, Ascii}
use Rattle.standard.specs.declared.Escapes.{Escapes}
use Rattle.standard.specs.Messages.{length_ok}
use Rattle.standard.specs.Framing.{value_of}
use Rattle.frames.specs.Plain.{stands, plain_of, span, beyond}
use Rattle.frames.proofs.Plainly.{Seen, nothing, one, two, seen, after_one, span_none, span_more}
use Rattle.reader.specs.declared.Mode.{Mode}
use Rattle.reader.specs.declared.Mode.TheVariants.{Open, Digit}
use Rattle.reader.specs.Step.{State, goes, takes, step_of}
use Rattle.reader.specs.Read.{Read, scan_of}
use Rattle.reader.proofs.Part.Frames.{length_snoc}
use Rattle.reader.proofs.Functions.CodeSteps.{no_start, takes_length, takes_ascii, takes_more, digit_due}

-- a read, with n bytes used before it
abbrev pub used_more : ℕ → Read → Read
used_more n read = record { used = n + read.used; next = read.next; said = read.said; kept = read.kept }

abbrev pub in_frame : Framing → List ℕ → State
in_frame f held = record { mode = Open f; held = held }

used_none : (read : Read) → read ≡ used_more 0 read
used_none read =
    ap (λ n. record { used = n; next = read.next; said = read.said; kept = read.kept }) (sym (zero-add read.used))

used_twice : (n m : ℕ) (read : Read) → used_more n (used_more m read) ≡ used_more (n + m) read
used_twice n m read =
    ap (λ k. record { used = k; next = read.next; said = read.said; kept = read.kept })
    (sym (add_assoc n m read.used))

-- a byte that says nothing
quiet : (rule : Escapes) (s : State) (b : ℕ) (bs : List ℕ) (m : Mode) (held : List ℕ) → step_of rule s b ≡ goes m held
    → scan_of rule s (b ∷ bs) ≡ used_more 1 (scan_of rule (record { mode = m; held = held }) bs)
unfolding scan_of
quiet rule s b bs m held e =
    let n : suc (scan_of rule (record {
      mode =
          m;
      held = held;
    }) bs).used ≡ 1 + (scan_of rule (record { mode = m; held = held }) bs).used = omega arith in
    rw (e, n)

-- ---- one plain byte

-- of a frame of length L that has room for it
takes_on : (f : Framing) (held : List ℕ) (x L : ℕ) → length_ok L ≡ true → get_or (held ++ (x ∷ [])) 0 0 ≡ L
    → length held < L + beyond f
    → takes f held x ≡ goes (Open f) (held ++ (x ∷ []))
takes_on f [] x L k e h = takes_length f [] x refl (rw e k)
takes_on Binary (b ∷ held) x L k e h = takes_more (b ∷ held) L x (omega arith) e h
takes_on Ascii (b ∷ held) x L k e h = takes_ascii (b ∷ held) x (omega arith)

-- a start or an escape does not stand for itself, and a start is no digit
not_standing : (b x : ℕ) → stands x ≡ false → stands b ≡ true → b ≡ x → ⊥
not_standing b x n s e = let z : ◌≡◌ {A = ℕ} 0 1 = ap (λ t. cond t 1 0) (sym n ∙ ap stands (sym e) ∙ s) in omega arith

no_digit_lem : (c d : ℕ) → value_of c ≡ some d → c ≡ 0x0A → ⊥
no_digit_lem c d v e = let z : ◌≡◌ {A = ℕ} 0 1 = ap is (sym (ap value_of e) ∙ v) in omega arith
  where
    is : Option ℕ → ℕ
    is none = 0
    is (some x) = 1

first : (held : List ℕ) (x L : ℕ) → get_or (held ++ (x ∷ [])) 0 0 ≡ L → get_or held 0 L ≡ L
first [] x L e = refl
first (b ∷ held) x L e = e

head : ℕ → List ℕ → ℕ
head d [] = d
head d (x ∷ xs) = x

module _ (rule : Escapes) (L : ℕ) (known : length_ok L ≡ true) (held : List ℕ) where
  one_standing : (b x : ℕ) (bs : List ℕ) → stands b ≡ true → b ≡ x → get_or (held ++ (x ∷ [])) 0 0 ≡ L
      → length held < L + 2
      → scan_of rule (in_frame Binary held) (b ∷ bs) ≡ used_more 1 (scan_of rule (in_frame Binary (held ++ (x ∷ []))) bs)
  one_standing b x bs s e f h =
      quiet rule (in_frame Binary held) b bs (Open Binary) (held ++ (x ∷ []))
      (no_start rule (Open Binary) held b (not_standing b 0x7E refl s)
      ∙ rw (ne_eqb b 0x7D (not_standing b 0x7D refl s), e) (takes_on Binary held x L known f h))

  two_digits : (c d u v x : ℕ) (bs : List ℕ) → value_of c ≡ some u → value_of d ≡ some v → u * 16 + v ≡ x
      → get_or (held ++ (x ∷ [])) 0 0 ≡ L
      → length held < L + 3
      → scan_of rule (in_frame Ascii held) (c ∷ d ∷ bs) ≡ used_more 2 (scan_of rule (in_frame Ascii (held ++ (x ∷ []))) bs)
  two_digits c d u v x bs p q e f h =
      let high : step_of rule (in_frame Ascii held) c ≡ goes (Digit u) held =
      no_start rule (Open Ascii) held c (no_digit_lem c u p) ∙ digit_due held L c (first held x L f) h ∙ rw p in
      let low : step_of rule (record { mode = Digit u; held = held }) d ≡ goes (Open Ascii) (held ++ (x ∷ [])) =
      no_start rule (Digit u) held d (no_digit_lem d v q) ∙ rw (q, e) (takes_on Ascii held x L known f h) in
      quiet rule (in_frame Ascii held) c (d ∷ bs) (Digit u) held high
      ∙ ap (used_more 1) (quiet rule (record { mode = Digit u; held = held }) d bs (Open Ascii) (held ++ (x ∷ [])) low)
      ∙ used_twice 1 1 (scan_of rule (in_frame Ascii (held ++ (x ∷ []))) bs)

  one_plain : {f : Framing} {bs p : List ℕ} → Seen f bs p → (x : ℕ) (xs : List ℕ) → p ≡ x ∷ xs
      → get_or (held ++ (x ∷ [])) 0 0 ≡ L
      → length held < L + beyond f
      → scan_of rule (in_frame f held) bs
      ≡ used_more (span f 1) (scan_of rule (in_frame f (held ++ (x ∷ []))) (drop (span f 1) bs))
  unfolding head
  one_plain nothing x xs e f room = absurd (cons≢nil (sym e))
  one_plain (one {b} {bs} s) x xs e f room = one_standing b x bs s (ap (head 0) e) f room
  one_plain (two {c} {d} {h} {l} {bs} p q) x xs e f room = two_digits c d h l x bs p q (ap (head 0) e) f room

-- ---- a run of them

pub plain_run : (rule : Escapes) (f : Framing) (L : ℕ) → length_ok L ≡ true → (k : ℕ) (held bs plain : List ℕ)
    → plain_of f bs ≡ plain
    → k ≤ length plain
    → get_or (held ++ plain) 0 0 ≡ L → length held + k ≤ L + beyond f
    → scan_of rule (in_frame f held) bs
    ≡ used_more (span f k) (scan_of rule (in_frame f (held ++ take k plain)) (drop (span f k) bs))
plain_run rule f L known zero held bs plain e n first few =
    rw (append-nil held, span_none f) (used_none (scan_of rule (in_frame f held) bs))
plain_run rule f L known (suc k) held bs [] e n first few = absurd (omega arith)
plain_run rule f L known (suc k) held bs (x ∷ plain) e n first few =
    let more = held ++ (x ∷ []) in
    let rest = drop (span f 1) bs in
    let again : more ++ plain ≡ held ++ (x ∷ plain) = append_snoc held x plain in
    let begin : get_or more 0 0 ≡ L = front held x plain ∙ first in
    let size : length more ≡ suc (length held) = length_snoc held x in
    let one = one_plain rule L known held (seen f bs) x plain e begin (omega arith) in
    let later =
    plain_run rule f L known k more rest plain (after_one f bs x plain e).rest (omega arith)
    (ap (λ l. get_or l 0 0) again ∙ first) (omega arith) in
    let n : span f 1 + span f k ≡ span f (suc k) = span_more f 1 k ∙ ap (span f) (omega arith) in
    one ∙ ap (used_more (span f 1)) later
    ∙ used_twice (span f 1) (span f k) (scan_of rule (in_frame f (more ++ take k plain)) (drop (span f k) rest))
    ∙ rw (append_snoc held x (take k plain), drop-drop (span f k) (span f 1) bs, n)
  where
    front : (held : List ℕ) (x : ℕ) (plain : List ℕ) → get_or (held ++ (x ∷ [])) 0 0 ≡ get_or (held ++ (x ∷ plain)) 0 0
    front [] x plain = refl
    front (b ∷ held) x plain = refl
