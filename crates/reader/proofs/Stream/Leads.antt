-- Every sound reader is what a stream leads to (`lead_to`): its start, the bytes held as they are sent, and what is
-- pending. So what is true of the readers met in a stream is true of every sound one. Assumes nothing.
use Prim.Native.Nat.{ℕ, zero, suc, ◌+◌, ◌*◌, ◌/◌, ◌%◌, ◌<◌}
use native.Mathlib.Nat.{div-add-mod'}
use native.Mathlib.Omega.{arith}
use mathlib.Core.Path.{◌≡◌, refl, sym, ap, ◌∙◌}
use mathlib.Core.Bool.{true, false, false≢true}
use mathlib.Core.Option.{some}
use mathlib.Core.List.{List, [], ◌∷◌, ◌++◌, flat_map, append-nil, append_assoc}
use lib.Bits.{bit_xor}
use lib.Dec.{eqb}
use lib.ListN.{length, length-append}
use borrow.Author.Tests.{eq-eqb, ne_eqb, leb-true, lt-ltb, lt-leb}
use Rattle.standard.specs.declared.Framing.{Framing}
use Rattle.standard.specs.declared.Framing.TheVariants.{Binary, Ascii}
use Rattle.standard.specs.declared.Escapes.{Escapes}
use Rattle.standard.specs.declared.Escapes.TheVariants.{Strict, Lenient}
use Rattle.standard.specs.Framing.{start_of, needed, may_follow, digit, coded, coding, stuffed, value_of}
use Rattle.standard.specs.Stream.{handed_of}
use Rattle.standard.proofs.Framings.{Bytes, Sent, start_escaped, escape_escaped, as_it_is, sent, value_digit}
use Rattle.reader.specs.declared.Mode.{Mode}
use Rattle.reader.specs.declared.Mode.TheVariants.{Skipping, Open, Escape, Digit}
use Rattle.reader.specs.Step.{State, Step, framing_of, is_open, goes, takes, step_of}
use Rattle.reader.specs.Calls.{lead_to}
use Rattle.reader.proofs.State.Soundness.{Few, Fits}
use Rattle.reader.proofs.Part.Frames.{length_snoc}
use Rattle.reader.proofs.Stream.Parts.{run, after, run_append, run_parts}

abbrev at : Mode → List ℕ → State
at m held = record { mode = m; held = held }

-- bytes that lead from a state to another, and say nothing
pub record Leads (rule : Escapes) (s : State) (bs : List ℕ) (t : State) : Type 0 where
  pub silent : run rule s bs ≡ []
  pub there : after rule s bs ≡ t

after_append : (rule : Escapes) (s : State) (xs ys : List ℕ) → after rule s (xs ++ ys) ≡ after rule (after rule s xs) ys
after_append rule s [] ys = refl
after_append rule s (b ∷ xs) ys = after_append rule (step_of rule s b).next xs ys

leads_then : {rule : Escapes} {s t u : State} {xs ys : List ℕ} → Leads rule s xs t → Leads rule t ys u
    → Leads rule s (xs ++ ys) u
leads_then {rule} {s} {t} {u} {xs} {ys} p q = record {
  silent = run_append rule s xs ys ∙ rw (p.silent, p.there) q.silent;
  there = after_append rule s xs ys ∙ rw p.there q.there;
}

-- one byte that goes on
leads_by : (rule : Escapes) (s : State) (b : ℕ) (m : Mode) (held : List ℕ) → step_of rule s b ≡ goes m held
    → Leads rule s (b ∷ []) (at m held)
leads_by rule s b m held e = record { silent = rw e; there = ap (λ (t : Step). t.next) e }

-- ---- a byte more

-- a recovered byte more is held, where that is still sound
takes_on : (f : Framing) (held : List ℕ) (b : ℕ) → Fits (Open f) (held ++ (b ∷ []))
    → takes f held b ≡ goes (Open f) (held ++ (b ∷ []))
takes_on f [] b k = rw k.0.0
takes_on Binary (L ∷ rest) b k = rw (lt-ltb (suc (length rest)) (L + 2) (omega (arith, length_snoc rest b, k.0.1)))
takes_on Ascii (L ∷ rest) b k = refl

-- a start is none that an escape was needed for
not_start : (b : ℕ) → needed b ≡ true → eqb b 0x7E ≡ false
not_start b h = ne_eqb b 0x7E (λ e. let z : needed 0x7E ≡ true = ap needed (sym e) ∙ h in false≢true z)

-- by either rule one that was escaped as it needed
may_follow_lem : (rule : Escapes) (b : ℕ) → needed b ≡ true → may_follow rule b ≡ true
may_follow_lem Strict b h = h
may_follow_lem Lenient b h = refl

escape_on : (rule : Escapes) (held : List ℕ) (b : ℕ) → needed b ≡ true
    → Fits (Open Binary) (held ++ (bit_xor b 0x20 ∷ []))
    → Leads rule (at (Open Binary) held) (0x7D ∷ b ∷ []) (at (Open Binary) (held ++ (bit_xor b 0x20 ∷ [])))
unfolding step_of
escape_on rule held b h k =
    let x = bit_xor b 0x20 in
    leads_then (leads_by rule (at (Open Binary) held) 0x7D Escape held refl)
    (leads_by rule (at Escape held) b (Open Binary) (held ++ (x ∷ []))
    (rw (not_start b h, may_follow_lem rule b h) (takes_on Binary held x k)))

-- as it is sent in binary
sent_on : (rule : Escapes) (held : List ℕ) (b : ℕ) (l : List ℕ) → Sent b l → Fits (Open Binary) (held ++ (b ∷ []))
    → Leads rule (at (Open Binary) held) l (at (Open Binary) (held ++ (b ∷ [])))
unfolding step_of
sent_on rule held b l start_escaped k = escape_on rule held 0x5E refl k
sent_on rule held b l escape_escaped k = escape_on rule held 0x5D refl k
sent_on rule held b l (as_it_is b' e q) k =
    leads_by rule (at (Open Binary) held) b' (Open Binary) (held ++ (b' ∷ [])) (rw (e, q) (takes_on Binary held b' k))

-- no digit is a start
digit_no_start : (d : ℕ) → d < 16 → eqb (digit d) 0x0A ≡ false
digit_no_start d h =
    ne_eqb (digit d) 0x0A (λ e.
    let v = value_digit d h in
    let w : value_of 0x0A ≡ some d = ap value_of (sym e) ∙ v in
    let z : ◌≡◌ {A = ℕ} 0 1 = cc in
    omega arith)

-- the first digit of a pair, where none is pending and the stop is not due
first_digit : (rule : Escapes) (held : List ℕ) (d : ℕ) → d < 16 → Few 2 held
    → step_of rule (at (Open Ascii) held) (digit d) ≡ goes (Digit d) held
unfolding step_of
first_digit rule [] d h k = rw (digit_no_start d h, value_digit d h)
first_digit rule (L ∷ rest) d h k = rw (digit_no_start d h, lt-leb (L + 2) (length rest) k.1, value_digit d h)

second_digit : (rule : Escapes) (held : List ℕ) (h d : ℕ) → d < 16
    → step_of rule (at (Digit h) held) (digit d) ≡ takes Ascii held (h * 16 + d)
unfolding step_of
second_digit rule held h d k = rw (digit_no_start d k, value_digit d k)

-- there is room for a byte more
room_for : (held : List ℕ) (b : ℕ) → Few 3 (held ++ (b ∷ [])) → Few 2 held
room_for [] b k = tt
room_for (L ∷ rest) b k = (k.0, omega (arith, length_snoc rest b, k.1))

byte_on : (rule : Escapes) (f : Framing) (held : List ℕ) (b : ℕ) → b < 256 → Fits (Open f) (held ++ (b ∷ []))
    → Leads rule (at (Open f) held) (coded f b) (at (Open f) (held ++ (b ∷ [])))
byte_on rule Binary held b h k = sent_on rule held b (stuffed b) (sent b) k
byte_on rule Ascii held b h k =
    let high = b / 16 in
    let low = b % 16 in
    let whole : high * 16 + low ≡ b = div-add-mod' b 16 in
    let first = first_digit rule held high (omega arith) (room_for held b k.0) in
    leads_then (leads_by rule (at (Open Ascii) held) (digit high) (Digit high) held first)
    (leads_by rule (at (Digit high) held) (digit low) (Open Ascii) (held ++ (b ∷ []))
    (second_digit rule held high low (omega arith) ∙ ap (takes Ascii held) whole ∙ takes_on Ascii held b k))

-- ---- all bytes held

fits_front : (n : ℕ) (a more : List ℕ) → Few n (a ++ more) → Few n a
fits_front n [] more k = tt
fits_front n (L ∷ rest) more k = (k.0, omega (arith, length-append rest more, k.1))

bytes_on : (rule : Escapes) (f : Framing) (held more : List ℕ) → Bytes more → Fits (Open f) (held ++ more)
    → Leads rule (at (Open f) held) (coding f more) (at (Open f) (held ++ more))
unfolding coding flat_map
bytes_on rule f held [] b k = record { silent = refl; there = ap (at (Open f)) (sym (append-nil held)) }
bytes_on rule f held (x ∷ more) b k =
    let one = held ++ (x ∷ []) in
    let same : one ++ more ≡ held ++ (x ∷ more) = append_assoc held (x ∷ []) more in
    let all : Fits (Open f) (one ++ more) = rw same k in
    rw (← same)
    (leads_then (byte_on rule f held x (b zero) (fits_front _ one more all.0, refl))
    (bytes_on rule f one more (λ i. b (suc i)) all))

-- a start between frames
starts : (rule : Escapes) (f : Framing) → Leads rule (at (Skipping f) []) (start_of f ∷ []) (at (Open f) [])
unfolding step_of
starts rule f = leads_by rule (at (Skipping f) []) (start_of f) (Open f) [] (rw (eq-eqb (start_of f) (start_of f) refl))

opened : (rule : Escapes) (f : Framing) (held : List ℕ) → Bytes held → Fits (Open f) held
    → Leads rule (at (Skipping f) []) (start_of f ∷ coding f held) (at (Open f) held)
opened rule f held b k = leads_then (starts rule f) (bytes_on rule f [] held b k)

wider : (held : List ℕ) → Few 2 held → Few 3 held
wider [] k = tt
wider (L ∷ rest) k = (k.0, omega (arith, k.1))

-- EVERY SOUND STATE IN A FRAME is what its stream leads to, in silence
pub leads : (rule : Escapes) (m : Mode) (held : List ℕ) → is_open m ≡ true → Bytes held → Fits m held
    → Leads rule (at (Skipping (framing_of m)) []) (lead_to m held) (at m held)
unfolding step_of
leads rule (Skipping f) held o b k = absurd (false≢true o)
leads rule (Open f) held o b k = opened rule f held b k
leads rule Escape held o b k =
    leads_then (opened rule Binary held b k) (leads_by rule (at (Open Binary) held) 0x7D Escape held refl)
leads rule (Digit d) held o b k =
    let first = first_digit rule held d (omega (arith, leb-true d 15 k.1)) k.0 in
    leads_then (opened rule Ascii held b (wider held k.0, refl))
    (leads_by rule (at (Open Ascii) held) (digit d) (Digit d) held first)

onward : (rule : Escapes) (m : Mode) (held : List ℕ) → is_open m ≡ true → Bytes held → Fits m held → (more : List ℕ)
    → handed_of rule (framing_of m) (lead_to m held ++ more) ≡ run rule (at m held) more
onward rule m held o b k more =
    let f = framing_of m in
    let w = leads rule m held o b k in
    sym (run_parts rule f [] (lead_to m held ++ more) (tt, refl))
    ∙ run_append rule (at (Skipping f) []) (lead_to m held) more
    ∙ rw (w.silent, w.there)

-- so a stream goes on from it as from the reader; between frames nothing has led to it, whatever it holds
pub lead_on : (rule : Escapes) (m : Mode) (held : List ℕ) → Bytes held → Fits m held → (more : List ℕ)
    → handed_of rule (framing_of m) (lead_to m held ++ more) ≡ run rule (at m held) more
lead_on rule (Skipping f) held b k more = sym (run_parts rule f held more k)
lead_on rule (Open f) held b k more = onward rule (Open f) held refl b k more
lead_on rule Escape held b k more = onward rule Escape held refl b k more
lead_on rule (Digit d) held b k more = onward rule (Digit d) held refl b k more
