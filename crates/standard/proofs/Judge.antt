-- Laws of the judgement: a stream's verdicts part at every start byte; the frame of a good message is judged good,
-- whatever follows it; and what is judged good has that message's frame at its beginning, where its bytes are coded
-- again as they came. Assumes nothing.
use Prim.Native.Nat.{ℕ, suc, ◌+◌, ◌*◌, ◌≤◌, ◌<◌}
use native.Mathlib.Numerals.{add-one}
use native.Mathlib.Omega.{arith}
use mathlib.Core.Path.{◌≡◌, refl, sym, ap, ap₂, ◌∙◌, subst}
use mathlib.Core.Bool.{Bool, true, false, cond, not, ◌||◌}
use mathlib.Core.Option.{Option, none, some}
use mathlib.Core.List.{List, [], ◌∷◌, ◌++◌, flat_map, append-nil, append_assoc}
use lib.Bits.{bit_xor}
use lib.Dec.{eqb, ltb}
use lib.ListN.{length, get_or, take, drop, length-append, take-append-drop}
use lib.Seq.{take-append_seam, drop_at, get_or-append_seam, get_or-append-add, drop-cons, length-take-le}
use borrow.Author.Tests.{eq-eqb, ne_eqb, eqb-true, eqb-false, le-leb, lt-ltb, le-ltb, ltb-false, not-false}
use Rattle.standard.specs.declared.Framing.{Framing}
use Rattle.standard.specs.declared.Framing.TheVariants.{Binary, Ascii}
use Rattle.standard.specs.declared.Escapes.{Escapes}
use Rattle.standard.specs.declared.Escapes.TheVariants.{Lenient}
use Rattle.standard.specs.declared.Sums.{Sums}
use Rattle.standard.specs.Words.{first_of}
use Rattle.standard.specs.Sums.{sums_of}
use Rattle.standard.specs.Messages.{longest, length_ok, among, message_tests, check_of}
use Rattle.standard.specs.Framing.{start_of, stop_of, stuffed, coding, body_of, frame_of, Recovered, also, may_follow}
use Rattle.standard.specs.Framing.{stopped, unstuff, digits_of, pairs, no_digit, recovered}
use Rattle.standard.specs.Judge.{Handed, Judged, decided, unfinished, handing, plain, sums_differ, whole_of, at_stop}
use Rattle.standard.specs.Judge.{ended, stuck, frame_judged, judge_after, judge}
use Rattle.standard.specs.Stream.{up_to_start, parts_of, part_hands, parts_hand, handed_of}
use Rattle.standard.proofs.Messages.{both_true, passed, good_length}
use Rattle.standard.proofs.Framings.{Sent, start_escaped, escape_escaped, as_it_is, sent, Bytes, bytes_front}
use Rattle.standard.proofs.Framings.{also_all, recovers, coding_append, ascii_length, body_length, Again}

-- ---- a stream parts at a start byte

-- the head of a list that x is not among
pub other_head : (x b : ℕ) (l : List ℕ) → among x (b ∷ l) ≡ false → (eqb b x ≡ false) × (among x l ≡ false)
other_head x b l = go (eqb x b) refl
  where
    go : (t : Bool) → eqb x b ≡ t → (t || among x l) ≡ false → (eqb b x ≡ false) × (among x l ≡ false)
    go true e h = absurd (let z : ◌≡◌ {A = ℕ} 0 1 = cc in omega arith)
    go false e h = (ne_eqb b x (λ q. eqb-false x b e (sym q)), h)

-- bytes with no start among them belong to the part before them
pub up_to_through : (x : ℕ) (l q : List ℕ) → among x l ≡ false → up_to_start x (l ++ q) ≡ l ++ up_to_start x q
up_to_through x [] q h = refl
up_to_through x (b ∷ l) q h =
    let other = other_head x b l h in
    rw other.0 (ap (λ (r : List ℕ). b ∷ r) (up_to_through x l q other.1))

-- and begin none themselves
pub parts_through : (x : ℕ) (l q : List ℕ) → among x l ≡ false → parts_of x (l ++ q) ≡ parts_of x q
parts_through x [] q h = refl
parts_through x (b ∷ l) q h =
    let other = other_head x b l h in
    rw other.0 (parts_through x l q other.1)

-- a start ends the part before it, whatever follows
up_to_start_lem : (x : ℕ) (p q : List ℕ) → up_to_start x (p ++ (x ∷ q)) ≡ up_to_start x p
up_to_start_lem x [] q = rw (eq-eqb x x refl)
up_to_start_lem x (b ∷ p) q = ap (λ (l : List ℕ). cond (eqb b x) [] (b ∷ l)) (up_to_start_lem x p q)

pub parts_append : (x : ℕ) (p q : List ℕ) → parts_of x (p ++ (x ∷ q)) ≡ parts_of x p ++ parts_of x (x ∷ q)
parts_append x [] q = refl
parts_append x (b ∷ p) q = go (eqb b x) (up_to_start_lem x p q) (parts_append x p q)
  where
    go : (t : Bool) → up_to_start x (p ++ (x ∷ q)) ≡ up_to_start x p
        → parts_of x (p ++ (x ∷ q)) ≡ parts_of x p ++ parts_of x (x ∷ q)
        → cond t ((b ∷ up_to_start x (p ++ (x ∷ q))) ∷ parts_of x (p ++ (x ∷ q))) (parts_of x (p ++ (x ∷ q)))
        ≡ cond t ((b ∷ up_to_start x p) ∷ parts_of x p) (parts_of x p) ++ parts_of x (x ∷ q)
    go true e k = ap₂ (λ (l : List ℕ) (r : List (List ℕ)). (b ∷ l) ∷ r) e k
    go false e k = k

-- an unfinished part is cut short by whatever part follows
hands_alike : (j : Judged) (ps : List (List ℕ)) (a b : List ℕ) (later later' : List (List ℕ))
    → part_hands j (ps ++ (a ∷ later)) ≡ part_hands j (ps ++ (b ∷ later'))
hands_alike (decided h) ps a b later later' = refl
hands_alike unfinished [] a b later later' = refl
hands_alike unfinished (p ∷ ps) a b later later' = refl

-- a part that has only its start is silent at the end
judge_start : (rule : Escapes) (f : Framing) → judge rule f (start_of f ∷ []) ≡ unfinished
unfolding unstuff digits_of pairs
judge_start rule Binary = refl
judge_start rule Ascii = refl

-- what parts hand out, where another follows: as if it were only a start
hands_append : (rule : Escapes) (f : Framing) (ps : List (List ℕ)) (part : List ℕ) (later : List (List ℕ))
    → parts_hand rule f (ps ++ (part ∷ later))
    ≡ parts_hand rule f (ps ++ ((start_of f ∷ []) ∷ [])) ++ parts_hand rule f (part ∷ later)
hands_append rule f [] part later = rw (judge_start rule f)
hands_append rule f (p ∷ ps) part later =
    let first = ps ++ ((start_of f ∷ []) ∷ []) in
    ap₂ ◌++◌ (hands_alike (judge rule f p) ps part (start_of f ∷ []) later []) (hands_append rule f ps part later)
    ∙ sym (append_assoc (part_hands (judge rule f p) first) (parts_hand rule f first) (parts_hand rule f (part ∷ later)))

-- a stream that begins with a start
pub parts_start : (x : ℕ) (q : List ℕ) → parts_of x (x ∷ q) ≡ (x ∷ up_to_start x q) ∷ parts_of x q
parts_start x q = rw (eq-eqb x x refl)

-- A STREAM PARTS AT A START BYTE: that byte ends what came before, and what comes from it on does not depend on that
pub handed_append : (rule : Escapes) (f : Framing) (p q : List ℕ)
    → handed_of rule f (p ++ (start_of f ∷ q))
    ≡ handed_of rule f (p ++ (start_of f ∷ [])) ++ handed_of rule f (start_of f ∷ q)
handed_append rule f p q =
    let x = start_of f in
    ap (parts_hand rule f) (parts_append x p q ∙ ap (λ (l : List (List ℕ)). parts_of x p ++ l) (parts_start x q))
    ∙ hands_append rule f (parts_of x p) (x ∷ up_to_start x q) (parts_of x q)
    ∙ ap₂ (λ (l r : List (List ℕ)). parts_hand rule f l ++ parts_hand rule f r)
    (sym (parts_append x p [] ∙ ap (λ (l : List (List ℕ)). parts_of x p ++ l) (parts_start x [])))
    (sym (parts_start x q))

-- ---- the frame of a message

-- what is held after the length of a frame: its message, its sums and any more
abbrev held_after : List ℕ → List ℕ → List ℕ
held_after m more = m ++ ((sums_of (length m ∷ m)).one ∷ (sums_of (length m ∷ m)).two ∷ more)

held_message : (m more : List ℕ) → take (length m) (held_after m more) ≡ m
held_message m more = take-append_seam m ((sums_of (length m ∷ m)).one ∷ (sums_of (length m ∷ m)).two ∷ more)

-- its sums are right
held_sums : (m more : List ℕ) → sums_differ (length m) (held_after m more) ≡ false
held_sums m more =
    let one = (sums_of (length m ∷ m)).one in
    let two = (sums_of (length m ∷ m)).two in
    rw (
      held_message m more,
      get_or-append_seam m one (two ∷ more) 0,
      get_or-append-add m (one ∷ two ∷ more) 1 0,
      eq-eqb one one refl,
      eq-eqb two two refl,
    )

-- so its verdict is the message's own
held_whole : (m more : List ℕ) → whole_of [] (length m) (held_after m more) ≡ handing (check_of m) m
unfolding whole_of check_of
held_whole m more = rw (held_sums m more, held_message m more)

-- the stop place is behind the two characters of each byte
stop_place : (m q : List ℕ) → drop (2 * (length m + 3)) (coding Ascii (body_of m) ++ q) ≡ q
stop_place m q =
    drop_at (coding Ascii (body_of m)) q (2 * (length m + 3))
    (ascii_length (body_of m) ∙ ap (λ (n : ℕ). 2 * n) (body_length m))

-- at the end of a frame, with its stop where it is due
held_ended : (f : Framing) (m more q : List ℕ)
    → ended f (coding f (body_of m) ++ (stop_of f ++ q)) (length m) (held_after m more) ≡ decided (handing (check_of m) m)
unfolding whole_of
held_ended Binary m more q = ap decided (held_whole m more)
held_ended Ascii m more q =
    ap (λ (l : List ℕ). at_stop l (length m) (held_after m more)) (stop_place m (0x0D ∷ q))
    ∙ ap decided (held_whole m more)

-- a length that is read and all held: the end decides
held_judged : (m more : List ℕ) (fault : Option ℕ) (end : ℕ → List ℕ → Judged) → length_ok (length m) ≡ true
    → frame_judged (length m ∷ held_after m more) fault end ≡ end (length m) (held_after m more)
held_judged m more fault end h =
    let long : length m + 2 ≤ length (held_after m more) = rw length-append (omega arith) in
    rw (h, le-ltb (length (held_after m more)) (length m + 2) long)

-- once a message's body is there, the end decides
judge_body : (rule : Escapes) (f : Framing) (m q : List ℕ) → length_ok (length m) ≡ true → Bytes (body_of m)
    → judge_after rule f (coding f (body_of m) ++ q)
    ≡ ended f (coding f (body_of m) ++ q) (length m) (held_after m (recovered rule f q).bytes)
judge_body rule f m q h b =
    let end = ended f (coding f (body_of m) ++ q) in
    let left = recovered rule f q in
    let sums = (sums_of (length m ∷ m)).one ∷ (sums_of (length m ∷ m)).two ∷ [] in
    ap (λ (r : Recovered). frame_judged r.bytes r.fault end) (recovers rule f (body_of m) q b)
    ∙ ap (λ (rest : List ℕ). frame_judged (length m ∷ rest) left.fault end) (append_assoc m sums left.bytes)
    ∙ held_judged m left.bytes left.fault end h

-- THE FRAME OF EVERY MESSAGE OF 1 TO 255 BYTES is judged by the message's own tests, whatever follows it
pub judge_every : (rule : Escapes) (f : Framing) (m q : List ℕ) → length_ok (length m) ≡ true → Bytes (body_of m)
    → judge rule f (frame_of f m ++ q) ≡ decided (handing (check_of m) m)
unfolding frame_of
judge_every rule f m q h b =
    ap (judge_after rule f) (append_assoc (coding f (body_of m)) (stop_of f) q)
    ∙ judge_body rule f m (stop_of f ++ q) h b
    ∙ held_ended f m (recovered rule f (stop_of f ++ q)).bytes q

-- THE FRAME OF A GOOD MESSAGE IS JUDGED GOOD, whatever follows it
pub judge_frame : (rule : Escapes) (f : Framing) (m q : List ℕ) → check_of m ≡ 0 → Bytes (body_of m)
    → judge rule f (frame_of f m ++ q) ≡ decided (handing 0 m)
judge_frame rule f m q h b = judge_every rule f m q (good_length m h) b ∙ ap (λ (n : ℕ). decided (handing n m)) h

-- ---- what is judged good

-- a verdict 0 hands out the message
handing_said : (v : ℕ) (l m : List ℕ) → handing v l ≡ handing 0 m → (v ≡ 0) × (l ≡ m)
handing_said v l m e =
    let zero : v ≡ 0 = ap (λ (h : Handed). h.verdict) e in
    (zero, sym (rw (eq-eqb v 0 zero)) ∙ ap (λ (h : Handed). h.message) e)

-- no test holds
pub first_none : (t : Bool) (n : ℕ) (tests : List (Bool × ℕ)) → (n ≡ 0 → ⊥) → first_of ((t, n) ∷ tests) ≡ 0
    → (t ≡ false) × (first_of tests ≡ 0)
first_none true n tests h e = absurd (h e)
first_none false n tests h e = (refl, e)

-- recovering never stops, or at a byte of this verdict
pub data FaultIs : ℕ → Option ℕ → Type 0 where
  never : (n : ℕ) → FaultIs n none
  stops : (n : ℕ) → FaultIs n (some n)

-- 15 in binary
pub unstuff_fault : (rule : Escapes) (e : Bool) (l : List ℕ) → FaultIs 15 (unstuff rule e l).fault
unfolding unstuff
unstuff_fault rule e [] = never 15
unstuff_fault rule true (b ∷ l) = go (may_follow rule b) (unstuff rule false l) (unstuff_fault rule false l)
  where
    go : (t : Bool) (r : Recovered) → FaultIs 15 r.fault
        → FaultIs 15 (cond t (also (bit_xor b 0x20) r) (stopped 15)).fault
    go true r h = h
    go false r h = stops 15
unstuff_fault rule false (b ∷ l) = go (eqb b 0x7D) (unstuff rule (eqb b 0x7D) l) (unstuff_fault rule (eqb b 0x7D) l)
  where
    go : (t : Bool) (r : Recovered) → FaultIs 15 r.fault → FaultIs 15 (cond t r (also b r)).fault
    go true r h = h
    go false r h = h

-- and never by the old rule
pub lenient_fault : (e : Bool) (l : List ℕ) → (unstuff Lenient e l).fault ≡ none
unfolding unstuff
lenient_fault e [] = refl
lenient_fault true (b ∷ l) = lenient_fault false l
lenient_fault false (b ∷ l) = go (eqb b 0x7D) (unstuff Lenient (eqb b 0x7D) l) (lenient_fault (eqb b 0x7D) l)
  where
    go : (t : Bool) (r : Recovered) → r.fault ≡ none → (cond t r (also b r)).fault ≡ none
    go true r h = h
    go false r h = h

-- 2 in ASCII
digits_fault : (l : List ℕ) → FaultIs 2 (no_digit l)
digits_fault l = go (ltb (length (digits_of l)) (length l))
  where
    go : (t : Bool) → FaultIs 2 (cond t (some 2) none)
    go true = stops 2
    go false = never 2

abbrev pub fault_of : Framing → ℕ
fault_of Binary = 15
fault_of Ascii = 2

pub recovered_fault : (rule : Escapes) (f : Framing) (l : List ℕ) → FaultIs (fault_of f) (recovered rule f l).fault
recovered_fault rule Binary l = unstuff_fault rule false l
recovered_fault rule Ascii l = digits_fault l

-- what stops recovering is no good verdict
fault_bad : (rule : Escapes) (f : Framing) (l : List ℕ) → (recovered rule f l).fault ≡ some 0 → ⊥
fault_bad rule f l = go f (recovered rule f l).fault (recovered_fault rule f l)
  where
    go : (f : Framing) (fault : Option ℕ) → FaultIs (fault_of f) fault → fault ≡ some 0 → ⊥
    go f fault (never n) e = let z : ◌≡◌ {A = ℕ} 0 1 = cc in omega arith
    go Binary fault (stops n) e = let z : ◌≡◌ {A = ℕ} 15 0 = cc in omega arith
    go Ascii fault (stops n) e = let z : ◌≡◌ {A = ℕ} 2 0 = cc in omega arith

decided_same : (a b : Handed) → decided a ≡ decided b → a ≡ b
decided_same a b e = cc

-- a part that stops short is not good
stuck_not_good : (fault : Option ℕ) (m : List ℕ) → (fault ≡ some 0 → ⊥) → stuck fault ≡ decided (handing 0 m) → ⊥
stuck_not_good none m h e = let z : ◌≡◌ {A = ℕ} 0 1 = cc in omega arith
stuck_not_good (some v) m h e = h (ap some (handing_said v [] m (decided_same (handing v []) (handing 0 m) e)).0)

-- bytes held of a whole frame, at whose end the good verdict was given
record EndSaid (bytes : List ℕ) (end : ℕ → List ℕ → Judged) (m : List ℕ) : Type 0 where
  L : ℕ
  rest : List ℕ
  held : bytes ≡ L ∷ rest
  long : L + 2 ≤ length rest
  said : end L rest ≡ decided (handing 0 m)

end_said : (bytes : List ℕ) (fault : Option ℕ) (end : ℕ → List ℕ → Judged) (m : List ℕ) → (fault ≡ some 0 → ⊥)
    → frame_judged bytes fault end ≡ decided (handing 0 m) → EndSaid bytes end m
end_said [] fault end m h e = absurd (stuck_not_good fault m h e)
end_said (L ∷ rest) fault end m h e = go (length_ok L) (ltb (length rest) (L + 2)) refl e
  where
    go : (s t : Bool) → ltb (length rest) (L + 2) ≡ t
        → cond s (cond t (stuck fault) (end L rest)) (plain 4) ≡ decided (handing 0 m)
        → EndSaid (L ∷ rest) end m
    go true true k q = absurd (stuck_not_good fault m h q)
    go true false k q = record { L = L; rest = rest; held = refl; long = ltb-false (length rest) (L + 2) k; said = q }
    go false t k q =
        let bad : ◌≡◌ {A = ℕ} 4 0 = (handing_said 4 [] m (decided_same (handing 4 []) (handing 0 m) q)).0 in
        absurd (omega arith)

-- a whole frame whose verdict is good
record WholeSaid (L : ℕ) (rest m : List ℕ) : Type 0 where
  check : check_of m ≡ 0
  message : take L rest ≡ m
  sums : sums_differ L rest ≡ false

-- a verdict 0 is given when no test of the whole frame holds
whole_said : (L : ℕ) (rest m : List ℕ) → whole_of [] L rest ≡ handing 0 m → WholeSaid L rest m
unfolding whole_of check_of
whole_said L rest m e =
    let said = handing_said (first_of ((sums_differ L rest, 5) ∷ message_tests (take L rest))) (take L rest) m e in
    let tests = first_none (sums_differ L rest) 5 (message_tests (take L rest)) (λ z. omega arith) said.0 in
    record { check = ap check_of (sym said.1) ∙ tests.1; message = said.1; sums = tests.0 }

-- then message and sums stand there
whole_held : (L : ℕ) (rest m : List ℕ) → L + 2 ≤ length rest → WholeSaid L rest m
    → (L ≡ length m) × (rest ≡ held_after m (drop (suc (suc L)) rest))
whole_held L rest m h w =
    let size : L ≡ length m = sym (length-take-le L rest (omega arith)) ∙ ap length w.message in
    let same = both_true _ _ (not-false _ w.sums) in
    let alike : sums_of (L ∷ take L rest) ≡ sums_of (length m ∷ m) =
    ap₂ (λ (n : ℕ) (l : List ℕ). sums_of (n ∷ l)) size w.message in
    let one : get_or rest L 0 ≡ (sums_of (length m ∷ m)).one = eqb-true _ _ same.0 ∙ ap (λ (s : Sums). s.one) alike in
    let two : get_or rest (suc L) 0 ≡ (sums_of (length m ∷ m)).two =
    ap (λ (n : ℕ). get_or rest n 0) (sym (add-one L)) ∙ eqb-true _ _ same.1 ∙ ap (λ (s : Sums). s.two) alike in
    let more = drop (suc (suc L)) rest in
    let second : drop (suc L) rest ≡ (sums_of (length m ∷ m)).two ∷ more =
    drop-cons rest (suc L) 0 (omega arith) ∙ ap (λ (n : ℕ). n ∷ more) two in (
      size,
      sym (take-append-drop L rest)
          ∙ ap₂ ◌++◌ w.message (drop-cons rest L 0 (omega arith) ∙ ap₂ ◌∷◌ one second),
    )

-- the stop stood at its place
record StopSaid (L : ℕ) (rest behind m : List ℕ) : Type 0 where
  tail : List ℕ
  is : behind ≡ 0x0D ∷ tail
  whole : whole_of [] L rest ≡ handing 0 m

stop_said : (L : ℕ) (rest behind m : List ℕ) → at_stop behind L rest ≡ decided (handing 0 m) → StopSaid L rest behind m
unfolding whole_of
stop_said L rest [] m e = absurd (let z : ◌≡◌ {A = ℕ} 0 1 = cc in omega arith)
stop_said L rest (c ∷ cs) m e =
    go (eqb c 0x0D) refl (decided_same (whole_of ((not (eqb c 0x0D), 3) ∷ []) L rest) (handing 0 m) e)
  where
    go : (t : Bool) → eqb c 0x0D ≡ t → whole_of ((not t, 3) ∷ []) L rest ≡ handing 0 m → StopSaid L rest (c ∷ cs) m
    go true k q = record { tail = cs; is = ap (λ (x : ℕ). x ∷ cs) (eqb-true c 0x0D k); whole = q }
    go false k q =
        let bad : ◌≡◌ {A = ℕ} 3 0 = (handing_said 3 (take L rest) m q).0 in
        absurd (omega arith)

-- in either framing the whole frame's verdict was good
ended_whole : (f : Framing) (after : List ℕ) (L : ℕ) (rest m : List ℕ) → ended f after L rest ≡ decided (handing 0 m)
    → whole_of [] L rest ≡ handing 0 m
ended_whole Binary after L rest m e = decided_same (whole_of [] L rest) (handing 0 m) e
ended_whole Ascii after L rest m e = (stop_said L rest (drop (2 * (L + 3)) after) m e).whole

-- behind the body stands the stop, where there is one
record Stopped (f : Framing) (behind : List ℕ) : Type 0 where
  tail : List ℕ
  is : behind ≡ stop_of f ++ tail

ended_stop : (f : Framing) (m behind rest : List ℕ)
    → ended f (coding f (body_of m) ++ behind) (length m) rest ≡ decided (handing 0 m) → Stopped f behind
ended_stop Binary m behind rest e = record { tail = behind; is = refl }
ended_stop Ascii m behind rest e =
    let here = ap (λ (l : List ℕ). at_stop l (length m) rest) (sym (stop_place m behind)) in
    let said = stop_said (length m) rest behind m (here ∙ e) in
    record { tail = said.tail; is = said.is }

-- what a good judgement says: the body was recovered, and any more, and then the end decided
record GoodSaid (rule : Escapes) (f : Framing) (after m : List ℕ) : Type 0 where
  check : check_of m ≡ 0
  rest : List ℕ
  more : List ℕ
  bytes : (recovered rule f after).bytes ≡ body_of m ++ more
  end : ended f after (length m) rest ≡ decided (handing 0 m)

good_said : (rule : Escapes) (f : Framing) (after m : List ℕ) → judge_after rule f after ≡ decided (handing 0 m)
    → GoodSaid rule f after m
good_said rule f after m e =
    let said = end_said (recovered rule f after).bytes (recovered rule f after).fault (ended f after) m
    (fault_bad rule f after) e in
    let L = said.L in
    let rest = said.rest in
    let whole = whole_said L rest m (ended_whole f after L rest m said.said) in
    let held = whole_held L rest m said.long whole in
    let more = drop (suc (suc L)) rest in
    let sums = (sums_of (length m ∷ m)).one ∷ (sums_of (length m ∷ m)).two ∷ [] in
    record {
      check = whole.check;
      rest = rest;
      more = more;
      bytes = said.held ∙ ap₂ ◌∷◌ held.0 (held.1 ∙ sym (append_assoc m sums more));
      end = ap (λ (n : ℕ). ended f after n rest) (sym held.0) ∙ said.said;
    }

-- what is handed out with verdict 0 is a good message
pub good_check : (rule : Escapes) (f : Framing) (after m : List ℕ) → judge_after rule f after ≡ decided (handing 0 m)
    → check_of m ≡ 0
good_check rule f after m e = (good_said rule f after m e).check

-- the bytes after a start begin with the rest of a good message's frame
pub record Begins (f : Framing) (after m : List ℕ) : Type 0 where
  pub check : check_of m ≡ 0
  pub bytes : Bytes (body_of m)
  pub tail : List ℕ
  pub is : after ≡ coding f (body_of m) ++ (stop_of f ++ tail)

-- WHAT IS JUDGED GOOD BEGINS WITH ITS MESSAGE'S FRAME, where its bytes are coded again as they came
pub good_begins : (rule : Escapes) (f : Framing) (after m : List ℕ) → Again f (recovered rule f after).bytes after
    → judge_after rule f after ≡ decided (handing 0 m) → Begins f after m
good_begins rule f after m a e =
    let said = good_said rule f after m e in
    let behind = coding f said.more ++ a.left in
    let split : after ≡ coding f (body_of m) ++ behind =
    sym a.chars
    ∙ ap (λ (l : List ℕ). coding f l ++ a.left) said.bytes
    ∙ ap (λ (l : List ℕ). l ++ a.left) (coding_append f (body_of m) said.more)
    ∙ append_assoc (coding f (body_of m)) (coding f said.more) a.left in
    let end = ap (λ (l : List ℕ). ended f l (length m) said.rest) (sym split) ∙ said.end in
    let stop = ended_stop f m behind said.rest end in
    record {
      check = said.check;
      bytes = bytes_front (body_of m) said.more (subst Bytes said.bytes a.bytes);
      tail = stop.tail;
      is = split ∙ ap (λ (l : List ℕ). coding f (body_of m) ++ l) stop.is;
    }

-- ---- the frame's last byte decides

-- a frame up to its last byte, and that byte
pub record Last (rule : Escapes) (f : Framing) (m : List ℕ) : Type 0 where
  pub front : List ℕ
  pub last : ℕ
  pub is : frame_of f m ≡ start_of f ∷ front ++ (last ∷ [])
  pub before : judge rule f (start_of f ∷ front) ≡ unfinished

-- a sent byte's last character, and nothing is recovered from what stands before it
record LastOf (l : List ℕ) : Type 0 where
  init : List ℕ
  last : ℕ
  is : l ≡ init ++ (last ∷ [])
  silent : (rule : Escapes) → unstuff rule false init ≡ record { bytes = []; fault = none }

last_of : (b : ℕ) (l : List ℕ) → Sent b l → LastOf l
unfolding unstuff
last_of b l start_escaped = record { init = 0x7D ∷ []; last = 0x5E; is = refl; silent = λ rule. refl }
last_of b l escape_escaped = record { init = 0x7D ∷ []; last = 0x5D; is = refl; silent = λ rule. refl }
last_of b l (as_it_is b' e k) = record { init = []; last = b'; is = refl; silent = λ rule. refl }

-- a byte of a good frame is still missing
held_few : (m rest : List ℕ) (end : ℕ → List ℕ → Judged) → check_of m ≡ 0 → length rest < length m + 2
    → frame_judged (length m ∷ rest) none end ≡ unfinished
held_few m rest end h k =
    let sized = (passed m h).sized in
    rw
    (le-leb 1 (length m) sized.some, le-leb (length m) longest sized.few, lt-ltb (length rest) (length m + 2) k)

-- ASCII waits for the stop
stop_decides : (rule : Escapes) (m : List ℕ) → check_of m ≡ 0 → Bytes (body_of m)
    → judge rule Ascii (start_of Ascii ∷ coding Ascii (body_of m)) ≡ unfinished
stop_decides rule m h b =
    ap (judge_after rule Ascii) (sym (append-nil (coding Ascii (body_of m))))
    ∙ judge_body rule Ascii m [] (good_length m h) b
    ∙ ap (λ (l : List ℕ). at_stop l (length m) (held_after m (recovered rule Ascii []).bytes)) (stop_place m [])

-- THE FRAME'S LAST BYTE DECIDES: binary the last sum byte, ASCII the stop
pub last_decides : (rule : Escapes) (f : Framing) (m : List ℕ) → check_of m ≡ 0 → Bytes (body_of m) → Last rule f m
unfolding frame_of coding flat_map
last_decides rule Binary m h b =
    let one = (sums_of (length m ∷ m)).one in
    let two = (sums_of (length m ∷ m)).two in
    let shorter = length m ∷ m ++ (one ∷ []) in
    let end = last_of two (stuffed two) (sent two) in
    let regroup : body_of m ≡ shorter ++ (two ∷ []) =
    ap (λ (l : List ℕ). length m ∷ l) (sym (append_assoc m (one ∷ []) (two ∷ []))) in
    let front = coding Binary shorter ++ end.init in
    let bytes = recovers rule Binary shorter end.init (bytes_front shorter (two ∷ []) (subst Bytes regroup b)) in
    record {
      front = front;
      last = end.last;
      is = ap (λ (l : List ℕ). 0x7E ∷ l)
          (append-nil (coding Binary (body_of m))
          ∙ ap (coding Binary) regroup
          ∙ coding_append Binary shorter (two ∷ [])
          ∙ ap (λ (l : List ℕ). coding Binary shorter ++ l) (append-nil (stuffed two) ∙ end.is)
          ∙ sym (append_assoc (coding Binary shorter) end.init (end.last ∷ [])));
      before =
          ap (λ (r : Recovered). frame_judged r.bytes r.fault (ended Binary front))
          (bytes ∙ ap (also_all shorter) (end.silent rule))
          ∙ held_few m (m ++ (one ∷ []) ++ []) (ended Binary front) h (rw (append-nil, length-append) (omega arith));
    }
last_decides rule Ascii m h b =
    record { front = coding Ascii (body_of m); last = 0x0D; is = refl; before = stop_decides rule m h b }
