-- Laws of the report: how long it is, for every capture. A verdict of a stream is one of 0 to 8, so each verdict line
-- has 8 bytes; a capture of n bytes has at most n - 1 verdicts, since a start byte that ends it gives none; and the
-- group lines are longest where nothing is heard. Assumes nothing.
use Prim.Native.Nat.{ℕ, zero, suc, ◌+◌, ◌-◌, ◌*◌, ◌/◌, ◌%◌, ◌≤◌, ◌<◌, zero-le}
use native.Mathlib.Omega.{arith}
use mathlib.Core.Path.{◌≡◌, refl, ap, ◌∙◌}
use mathlib.Core.Bool.{Bool, true, false, cond, not}
use mathlib.Core.Option.{Option}
use mathlib.Core.List.{List, [], ◌∷◌, map, flat_map, append-nil}
use lib.Dec.{eqb, ltb, eqb-suc-zero}
use lib.ListN.{length, take, drop, replicate, length-append, length-take, length-replicate}
use lib.Seq.{take_all, take-append_seam}
use borrow.Author.Tests.{lt-ltb, le-ltb, leb-true}
use Rattle.standard.specs.declared.Framing.{Framing}
use Rattle.standard.specs.declared.Framing.TheVariants.{Binary, Ascii}
use Rattle.standard.specs.declared.Escapes.{Escapes}
use Rattle.standard.specs.declared.Escapes.TheVariants.{Strict, Lenient}
use Rattle.standard.specs.Words.{up_to, total}
use Rattle.standard.specs.Messages.{length_ok, among, message_tests}
use Rattle.standard.specs.Framing.{start_of, unstuff, recovered, digits_of, pairs, no_digit}
use Rattle.standard.specs.Judge.{Handed, handing, Judged, decided, unfinished, carries_type, sums_differ, whole_of}
use Rattle.standard.specs.Judge.{at_stop, ended, stuck, plain, frame_judged, judge}
use Rattle.standard.specs.Stream.{up_to_start, parts_of, part_hands, parts_hand, handed_of}
use Rattle.standard.specs.Replies.{reply_of}
use Rattle.standard.specs.Table.{fresh, table_after}
use Rattle.standard.specs.Overview.{heard_of, faulted_of, group_numbers}
use Rattle.standard.proofs.Words.{flat_map_append}
use Rattle.standard.proofs.Refusals.{first_within, of_the_stream, up_to_8}
use Rattle.standard.proofs.Judge.{FaultIs, never, stops, unstuff_fault, lenient_fault, recovered_fault}
use Rattle.standard.specs.Report.{most_read, decimal, type_text, reply_text, line_with, verdict_line, counts_line}
use Rattle.standard.specs.Report.{group_line, report_on, report_of, longest_report, reported_of, after_report}

-- lines of which each has at most so many bytes
flat_map_le : {A : Type 0} (f : A → List ℕ) (most : A → ℕ) → ((x : A) → length (f x) ≤ most x) → (l : List A)
    → length (flat_map f l) ≤ total (map most l)
unfolding flat_map total
flat_map_le f most h [] = zero-le
flat_map_le f most h (x ∷ l) = let a = h x in let b = flat_map_le f most h l in simp length-append (omega arith)

-- ---- a verdict of a stream is one of 0 to 8, or by the strict rule 15

abbrev pub OnSheet : Escapes → Judged → Type 0
OnSheet rule (decided h) = of_the_stream rule h.verdict ≡ true
OnSheet rule unfinished = Unit

stop_sheet : (rule : Escapes) (cs : List ℕ) (L : ℕ) (rest : List ℕ) → OnSheet rule (at_stop cs L rest)
unfolding whole_of
stop_sheet rule [] L rest = tt
stop_sheet rule (c ∷ cs) L rest =
    up_to_8 rule (first_within 8 ((not (eqb c 0x0D), 3) ∷ (sums_differ L rest, 5) ∷ message_tests (take L rest)) refl)

ended_sheet : (rule : Escapes) (f : Framing) (after : List ℕ) (L : ℕ) (rest : List ℕ)
    → OnSheet rule (ended f after L rest)
unfolding whole_of
ended_sheet rule Binary after L rest =
    up_to_8 rule (first_within 8 ((sums_differ L rest, 5) ∷ message_tests (take L rest)) refl)
ended_sheet rule Ascii after L rest = stop_sheet rule (drop (2 * (L + 3)) after) L rest

fault_sheet : (rule : Escapes) (f : Framing) (after : List ℕ) → OnSheet rule (stuck (recovered rule f after).fault)
fault_sheet Lenient Binary after = rw lenient_fault tt
fault_sheet Strict Binary after = go (unstuff Strict false after).fault (unstuff_fault Strict false after)
  where
    go : (fault : Option ℕ) → FaultIs 15 fault → OnSheet Strict (stuck fault)
    go fault (never n) = tt
    go fault (stops n) = refl
fault_sheet rule Ascii after = go (no_digit after) (recovered_fault rule Ascii after)
  where
    go : (fault : Option ℕ) → FaultIs 2 fault → OnSheet rule (stuck fault)
    go fault (never n) = tt
    go fault (stops n) = up_to_8 rule (omega arith)

frame_sheet : (rule : Escapes) (bytes : List ℕ) (fault : Option ℕ) (end : ℕ → List ℕ → Judged)
    → OnSheet rule (stuck fault) → ((L : ℕ) (rest : List ℕ) → OnSheet rule (end L rest))
    → OnSheet rule (frame_judged bytes fault end)
frame_sheet rule [] fault end s e = s
frame_sheet rule (L ∷ rest) fault end s e = by (length_ok L) (ltb (length rest) (L + 2))
  where
    by : (a b : Bool) → OnSheet rule (cond a (cond b (stuck fault) (end L rest)) (plain 4))
    by false b = up_to_8 rule (omega arith)
    by true true = s
    by true false = e L rest

pub judge_sheet : (rule : Escapes) (f : Framing) (part : List ℕ) → OnSheet rule (judge rule f part)
judge_sheet rule f part =
    let after = drop 1 part in
    let r = recovered rule f after in
    frame_sheet rule r.bytes r.fault (ended f after) (fault_sheet rule f after) (ended_sheet rule f after)

-- ---- how long the lines are

pub one_digit : (n : ℕ) → n < 10 → decimal n ≡ (48 + n) ∷ []
one_digit n h = rw (lt-ltb n 10 h)

pub two_digits : (n : ℕ) → 10 ≤ n → decimal n ≡ (48 + n / 10) ∷ (48 + n % 10) ∷ []
two_digits n h = rw (le-ltb n 10 h)

either_two : (t : Bool) (a b c d : ℕ) → length (cond t (a ∷ b ∷ []) (c ∷ d ∷ [])) ≡ 2
either_two true a b c d = refl
either_two false a b c d = refl

pub type_length : (h : Handed) → length (type_text h) ≡ 2
type_length h = either_two (carries_type h.verdict) _ _ _ _

pub reply_length : (reply : ℕ) → length (reply_text reply) ≡ 2
reply_length reply = either_two (eqb reply 0) _ _ _ _

-- the verdict, two bytes for each other field, two spaces and the line's end
pub line_length : (h : Handed) (reply : ℕ) → length (line_with h reply) ≡ length (decimal h.verdict) + 7
line_length h reply =
    let a = type_length h in
    let b = reply_length reply in
    simp length-append (omega arith)

verdict_length : (h : Handed) → h.verdict ≤ 8 → length (verdict_line h) ≡ 8
verdict_length h small =
    let e = ap length (one_digit h.verdict (omega arith)) in
    omega (arith, line_length h (reply_of h.verdict h.type_byte_of))

-- the line of a part's verdict, and those of all
one_length : (h : Handed) → h.verdict ≤ 8 → length (flat_map verdict_line (h ∷ [])) ≡ 8
unfolding flat_map
one_length h small = ap length (append-nil (verdict_line h)) ∙ verdict_length h small

part_length : (j : Judged) (later : List (List ℕ)) → OnSheet Lenient j
    → length (flat_map verdict_line (part_hands j later)) ≡ 8 * length (part_hands j later)
unfolding flat_map
part_length (decided h) later small = one_length h (leb-true h.verdict 8 small)
part_length unfinished [] small = refl
part_length unfinished (part ∷ later) small = one_length (handing 1 []) (omega arith)

parts_length : (f : Framing) (parts : List (List ℕ))
    → length (flat_map verdict_line (parts_hand Lenient f parts)) ≡ 8 * length (parts_hand Lenient f parts)
unfolding flat_map
parts_length f [] = refl
parts_length f (part ∷ later) =
    let a = part_length (judge Lenient f part) later (judge_sheet Lenient f part) in
    let b = parts_length f later in
    simp (flat_map_append, length-append) (omega arith)

verdicts_length : (f : Framing) (stream : List ℕ)
    → length (flat_map verdict_line (handed_of Lenient f stream)) ≡ 8 * length (handed_of Lenient f stream)
verdicts_length f stream = parts_length f (parts_of (start_of f) stream)

decimal_length : (n : ℕ) → length (decimal n) ≤ 2
decimal_length n = by (ltb n 10)
  where
    by : (t : Bool) → length (cond t ((48 + n) ∷ []) ((48 + n / 10) ∷ (48 + n % 10) ∷ [])) ≤ 2
    by true = omega arith
    by false = omega arith

-- longest where nothing is heard: the group and ` 0 -9999`, with the line's end
group_length : (t : List ℕ) (k : ℕ) → length (group_line t k) ≤ length (decimal k) + 9
group_length t k = by (heard_of t k)
  where
    by : (heard : ℕ) → length (counts_line k heard (faulted_of t k)) ≤ length (decimal k) + 9
    by zero = simp length-append (omega arith)
    by (suc n) =
        let a = decimal_length (suc n) in
        let b = decimal_length (faulted_of t k) in
        simp (eqb-suc-zero, length-append) (omega arith)

pub groups_length : (t : List ℕ) → length (flat_map (group_line t) group_numbers) ≤ 167
unfolding up_to total
groups_length t = flat_map_le (group_line t) (λ k. length (decimal k) + 9) (group_length t) group_numbers

-- ---- how many verdicts there are

-- a start byte and nothing after it
alone : (rule : Escapes) (f : Framing) (b : ℕ) → judge rule f (b ∷ []) ≡ unfinished
unfolding unstuff digits_of pairs
alone rule Binary b = refl
alone rule Ascii b = refl

part_one : (j : Judged) (later : List (List ℕ)) → length (part_hands j later) ≤ 1
part_one (decided h) later = omega arith
part_one unfinished [] = zero-le
part_one unfinished (part ∷ later) = omega arith

few_after : (rule : Escapes) (f : Framing) (b : ℕ) (bs : List ℕ) → length (handed_of rule f (b ∷ bs)) ≤ length bs
few_after rule f b [] = by (eqb b (start_of f))
  where
    by : (t : Bool) → length (parts_hand rule f (cond t ((b ∷ []) ∷ []) [])) ≤ 0
    by true = rw alone zero-le
    by false = zero-le
few_after rule f b (c ∷ cs) = by (eqb b (start_of f)) (parts_of (start_of f) (c ∷ cs)) (few_after rule f c cs)
  where
    by : (t : Bool) (later : List (List ℕ)) → length (parts_hand rule f later) ≤ length cs
        → length (parts_hand rule f (cond t ((b ∷ up_to_start (start_of f) (c ∷ cs)) ∷ later) later)) ≤ suc (length cs)
    by true later h =
        let a = part_one (judge rule f (b ∷ up_to_start (start_of f) (c ∷ cs))) later in
        simp length-append (omega arith)
    by false later h = omega arith

-- each start byte gives at most one verdict, and one that ends the stream none
verdicts_few : (rule : Escapes) (f : Framing) (stream : List ℕ) → length (handed_of rule f stream) ≤ length stream - 1
verdicts_few rule f [] = zero-le
verdicts_few rule f (b ∷ bs) = let h = few_after rule f b bs in omega arith

-- ---- the whole report

report_length : (stream : List ℕ)
    → let hs = handed_of Lenient Binary stream in
    length (report_on hs) ≡ 8 * length hs + length (flat_map (group_line (table_after fresh hs)) group_numbers)
unfolding report_on
report_length stream = let e = verdicts_length Binary stream in simp length-append (omega arith)

-- THE ROOM that is enough for every capture
pub room : (capture : List ℕ) → length (report_of capture) ≤ longest_report
room capture =
    let stream = take most_read capture in
    let few = verdicts_few Lenient Binary stream in
    let groups = groups_length (table_after fresh (handed_of Lenient Binary stream)) in
    omega (arith, report_length stream, length-take most_read capture)

-- of n + 1 start bytes each but the last is cut short, and nothing is heard
starts_hand : (n : ℕ) → handed_of Lenient Binary (replicate (suc n) 0x7E) ≡ replicate n (handing 1 [])
unfolding unstuff
starts_hand zero = refl
starts_hand (suc n) = ap (λ hs. handing 1 [] ∷ hs) (starts_hand n)

starts_leave : (t : List ℕ) (n : ℕ) → table_after t (replicate n (handing 1 [])) ≡ t
unfolding table_after
starts_leave t zero = refl
starts_leave t (suc n) = starts_leave t n

fresh_length : length (flat_map (group_line fresh) group_numbers) ≡ 167
unfolding flat_map up_to total heard_of fresh
fresh_length = refl

starts_length : (n : ℕ) → length (report_on (handed_of Lenient Binary (replicate (suc n) 0x7E))) ≡ 8 * n + 167
starts_length n =
    let many = ap length (starts_hand n) ∙ length-replicate n (handing 1 []) in
    let table = ap (table_after fresh) (starts_hand n) ∙ starts_leave fresh n in
    let groups = ap (λ t. length (flat_map (group_line t) group_numbers)) table ∙ fresh_length in
    omega (arith, report_length (replicate (suc n) 0x7E))

-- the report on start bytes alone, as many as are read, is the longest
pub room_reached : (n : ℕ) → suc n ≡ most_read → length (report_of (replicate (suc n) 0x7E)) ≡ longest_report
room_reached n h =
    let starts : List ℕ = replicate (suc n) 0x7E in
    let fits : length starts ≤ most_read = omega (arith, h, length-replicate {A = ℕ} (suc n) 0x7E) in
    let all = ap (λ l. length (report_on (handed_of Lenient Binary l))) (take_all most_read starts fits) in
    omega (arith, all, starts_length n, h)

-- NO LESS ROOM is enough
pub no_less : (n : ℕ) → ((capture : List ℕ) → length (report_of capture) ≤ n) → longest_report ≤ n
no_less n h = by_starts (most_read - 1) refl
  where
    by_starts : (k : ℕ) → suc k ≡ most_read → longest_report ≤ n
    by_starts k e = omega (arith, room_reached k e, h (replicate (suc k) 0x7E))

-- ---- in a lent buffer

-- one that is shorter than the longest report is refused, and left
pub report_refused : (capture out : List ℕ) → length out < longest_report
    → (reported_of capture out ≡ record { number = 9; length = 0 }) × (after_report capture out ≡ out)
report_refused capture out h = rw (lt-ltb (length out) longest_report h) (refl, refl)

-- any other begins with the report, whose length is said
pub report_begins : (capture out : List ℕ) → longest_report ≤ length out
    → ((reported_of capture out).number ≡ 0)
    × (take (reported_of capture out).length (after_report capture out) ≡ report_of capture)
report_begins capture out h =
    rw (le-ltb (length out) longest_report h) (refl, take-append_seam (report_of capture) _)

-- ---- who carries a type byte

-- "for 0, 6, 7, 8", of all verdicts and refusals
pub carriers : map carries_type (up_to 24) ≡ map (λ v. among v (0 ∷ 6 ∷ 7 ∷ 8 ∷ [])) (up_to 24)
unfolding up_to
carriers = refl
