-- Demand 2, both round trips, each over both framings and over the judgement of a stream. Writing and then reading
-- hands out the message, among any other bytes, by either rule of escapes. Reading and then writing gives the part
-- again, by the strict rule always, and by the old one exactly if its only escapes were those for 7Eh and 7Dh. Assumes
-- nothing.
use Prim.Native.Nat.{ℕ, zero, suc, ◌+◌, ◌<◌}
use native.Mathlib.Omega.{arith}
use mathlib.Core.Path.{◌≡◌, refl, sym, ap, ap₂, ◌∙◌, subst}
use mathlib.Core.Bool.{Bool, true, false, cond, ◌||◌}
use mathlib.Core.List.{List, [], ◌∷◌, ◌++◌, flat_map, append_assoc, append-nil}
use lib.Bits.{bit_xor}
use lib.Dec.{eqb, lit≤}
use lib.ListN.{length, take, drop, length-append}
use lib.Seq.{take-append_seam, take-append-add}
use borrow.Author.Tests.{eq-eqb, eqb-true}
use Rattle.standard.specs.declared.Framing.{Framing}
use Rattle.standard.specs.declared.Framing.TheVariants.{Binary, Ascii}
use Rattle.standard.specs.declared.Escapes.{Escapes}
use Rattle.standard.specs.declared.Escapes.TheVariants.{Strict, Lenient}
use Rattle.standard.specs.Messages.{among, check_of}
use Rattle.standard.specs.Framing.{start_of, stop_of, stuffed, coding, body_of, frame_of, also, needed, stopped, unstuff}
use Rattle.standard.specs.Framing.{recovered, only_needed, escapes_needed}
use Rattle.standard.specs.Judge.{decided, unfinished, handing, judge}
use Rattle.standard.specs.Stream.{up_to_start, handed_of, stream_needed}
use Rattle.standard.proofs.Messages.{good_length}
use Rattle.standard.proofs.Framings.{Sent, start_escaped, escape_escaped, as_it_is, sent}
use Rattle.standard.proofs.Framings.{Bytes, bytes_none, bytes_cons, bytes_append, body_bytes, coding_bytes}
use Rattle.standard.proofs.Framings.{Again, again_none, again_one, pairs_again}
use Rattle.standard.proofs.Judge.{other_head, up_to_through, parts_through, judge_frame, good_begins, last_decides}
use Rattle.standard.proofs.Stream.{no_start, handed_frame, handed_amid}
use Rattle.standard.proofs.Strict.{recovered_alike}
use Rattle.writer.specs.RoundTrip.{comes_back, HandsOut}

-- ---- writing, then reading

-- a frame's bytes after its start
abbrev inside : Framing → List ℕ → List ℕ
inside f m = coding f (body_of m) ++ stop_of f

-- WRITING, THEN READING: wherever a good message's frame stands in a stream, the message is handed out, after what the
-- frame's start byte ends and before what follows
pub write_then_read : (rule : Escapes) (f : Framing) (m p q : List ℕ) → check_of m ≡ 0 → Bytes m
    → handed_of rule f (p ++ (frame_of f m ++ q))
    ≡ handed_of rule f (p ++ (start_of f ∷ [])) ++ (handing 0 m ∷ handed_of rule f q)
write_then_read rule f m p q h b = handed_amid rule f p m q h b

-- and so of a frame alone
pub write_then_read_one : (rule : Escapes) (f : Framing) (m : List ℕ) → check_of m ≡ 0 → Bytes m
    → handed_of rule f (frame_of f m) ≡ handing 0 m ∷ []
write_then_read_one rule f m h b = ap (handed_of rule f) (sym (append-nil (frame_of f m))) ∙ handed_frame rule f m [] h b

-- ---- reading, then writing

-- the escape that came just before
abbrev escape : Bool → List ℕ
escape true = 0x7D ∷ []
escape false = []

-- behind an escape that was needed
escaped_again : (b : ℕ) (bs p : List ℕ) → needed b ≡ true → Again Binary bs p
    → Again Binary (bit_xor b 0x20 ∷ bs) (0x7D ∷ b ∷ p)
escaped_again b bs p h a = go (eqb b 0x5E) refl (eqb b 0x5D) refl h
  where
    go : (s : Bool) → eqb b 0x5E ≡ s → (t : Bool) → eqb b 0x5D ≡ t → (s || (t || false)) ≡ true
        → Again Binary (bit_xor b 0x20 ∷ bs) (0x7D ∷ b ∷ p)
    go true e t k q = rw (eqb-true b 0x5E e) (again_one Binary 0x7E bs p (omega arith) a)
    go false e true k q = rw (eqb-true b 0x5D k) (again_one Binary 0x7D bs p (omega arith) a)
    go false e false k q = absurd (let z : ◌≡◌ {A = ℕ} 0 1 = cc in omega arith)

plain_again : (b : ℕ) (bs p : List ℕ) → b < 256 → eqb b 0x7E ≡ false → eqb b 0x7D ≡ false → Again Binary bs p
    → Again Binary (b ∷ bs) (b ∷ p)
plain_again b bs p h e k a = rw (e, k) at (again_one Binary b bs p h a)

-- by the strict rule, up to where it stops
strict_again : (p : List ℕ) (e : Bool) → among 0x7E p ≡ false → Bytes p
    → Again Binary (unstuff Strict e p).bytes (escape e ++ p)
unfolding unstuff
strict_again [] true k b = again_none Binary (0x7D ∷ [])
strict_again [] false k b = again_none Binary []
strict_again (x ∷ p) true k b =
    go (needed x) refl (strict_again p false (other_head 0x7E x p k).1 (λ i. b (suc i)))
  where
    go : (t : Bool) → needed x ≡ t → Again Binary (unstuff Strict false p).bytes p
        → Again Binary (cond t (also (bit_xor x 0x20) (unstuff Strict false p)) (stopped 15)).bytes (0x7D ∷ x ∷ p)
    go true e ih = escaped_again x (unstuff Strict false p).bytes p e ih
    go false e ih = again_none Binary (0x7D ∷ x ∷ p)
strict_again (x ∷ p) false k b =
    go (eqb x 0x7D) refl (λ e. strict_again p e (other_head 0x7E x p k).1 (λ i. b (suc i)))
  where
    go : (t : Bool) → eqb x 0x7D ≡ t → ((e : Bool) → Again Binary (unstuff Strict e p).bytes (escape e ++ p))
        → Again Binary (cond t (unstuff Strict t p) (also x (unstuff Strict t p))).bytes (x ∷ p)
    go true e ih = rw (eqb-true x 0x7D e) (ih true)
    go false e ih = plain_again x (unstuff Strict false p).bytes p (b zero) (other_head 0x7E x p k).0 e (ih false)

-- the bytes of a part are coded again as they came: by the strict rule always, by the old one where its escapes were
-- needed, as both then recover the same
again : (rule : Escapes) (f : Framing) (after : List ℕ) → comes_back rule f after ≡ true
    → among (start_of f) after ≡ false → Bytes after
    → Again f (recovered rule f after).bytes after
again Strict Binary after h k b = strict_again after false k b
again rule Ascii after h k b = pairs_again after
again Lenient Binary after h k b = rw (← recovered_alike Binary after h) (strict_again after false k b)

-- all but the last of a list that goes on behind b
cut : (a b l : List ℕ) (x y : ℕ) → a ++ (x ∷ []) ≡ b ++ (y ∷ l) → a ≡ b ++ take (length l) (y ∷ l)
cut a b l x y e =
    let size : length a ≡ length b + length l = omega (arith, simp length-append at (ap length e)) in
    sym (take-append_seam a (x ∷ []))
    ∙ ap₂ (λ (n : ℕ) (r : List ℕ). take n r) size e
    ∙ take-append-add b (y ∷ l) (length l)

-- where the last byte decides, nothing stands behind the frame: the part would be decided without that byte
nothing_behind : (rule : Escapes) (f : Framing) (front : List ℕ) (last : ℕ) (m tail : List ℕ)
    → judge rule f (start_of f ∷ front) ≡ unfinished
    → check_of m ≡ 0 → Bytes (body_of m) → front ++ (last ∷ []) ≡ inside f m ++ tail → tail ≡ []
unfolding frame_of
nothing_behind rule f front last m [] u h b e = refl
nothing_behind rule f front last m (x ∷ tail) u h b e =
    let sooner : judge rule f (start_of f ∷ front) ≡ decided (handing 0 m) =
    ap (λ (l : List ℕ). judge rule f (start_of f ∷ l)) (cut front (inside f m) tail last x e)
    ∙ judge_frame rule f m (take (length tail) (x ∷ tail)) h b in
    let z : ◌≡◌ {A = ℕ} 0 1 = cc in
    absurd (omega arith)

-- READING, THEN WRITING: a part up to its deciding byte that hands out m is the frame of m; by the old rule where its
-- escapes were needed
pub read_then_write : (rule : Escapes) (f : Framing) (front : List ℕ) (last : ℕ) (m : List ℕ)
    → HandsOut rule f front last m
    → comes_back rule f (front ++ (last ∷ [])) ≡ true → frame_of f m ≡ start_of f ∷ front ++ (last ∷ [])
unfolding frame_of
read_then_write rule f front last m r h =
    let after = front ++ (last ∷ []) in
    let begins = good_begins rule f after m (again rule f after h r.alone r.bytes) r.said in
    let is : after ≡ inside f m ++ begins.tail =
    begins.is ∙ sym (append_assoc (coding f (body_of m)) (stop_of f) begins.tail) in
    let none = nothing_behind rule f front last m begins.tail r.before begins.check begins.bytes is in
    ap (λ (l : List ℕ). start_of f ∷ l) (sym (is ∙ ap (λ (l : List ℕ). inside f m ++ l) none ∙ append-nil (inside f m)))

-- WITHOUT CONDITION by the strict rule
pub strict_read_then_write : (f : Framing) (front : List ℕ) (last : ℕ) (m : List ℕ) → HandsOut Strict f front last m
    → frame_of f m ≡ start_of f ∷ front ++ (last ∷ [])
strict_read_then_write f front last m r = read_then_write Strict f front last m r refl

-- ---- every frame is such a part

sent_needed : (b : ℕ) (l : List ℕ) → Sent b l → (q : List ℕ) → only_needed false (l ++ q) ≡ only_needed false q
unfolding only_needed
sent_needed b l start_escaped q = refl
sent_needed b l escape_escaped q = refl
sent_needed b l (as_it_is b' e k) q = ap (λ (t : Bool). only_needed t q) k

coding_needed : (bs : List ℕ) → only_needed false (coding Binary bs) ≡ true
unfolding only_needed coding flat_map
coding_needed [] = refl
coding_needed (b ∷ bs) = sent_needed b (stuffed b) (sent b) (coding Binary bs) ∙ coding_needed bs

inside_needed : (f : Framing) (m : List ℕ) → escapes_needed f (inside f m) ≡ true
inside_needed Binary m = ap (only_needed false) (append-nil (coding Binary (body_of m))) ∙ coding_needed (body_of m)
inside_needed Ascii m = refl

-- nothing stands between a frame and the next
up_to_next : (f : Framing) (ms : List (List ℕ)) → up_to_start (start_of f) (flat_map (frame_of f) ms) ≡ []
unfolding flat_map frame_of
up_to_next f [] = refl
up_to_next f (m ∷ ms) = rw (eq-eqb (start_of f) (start_of f) refl)

-- WHAT IS WRITTEN, FRAME AFTER FRAME, is a stream whose every escape was needed
pub frames_needed : (f : Framing) (ms : List (List ℕ)) → stream_needed f (flat_map (frame_of f) ms) ≡ true
unfolding flat_map frame_of
frames_needed f [] = refl
frames_needed f (m ∷ ms) =
    let x = start_of f in
    let rest = flat_map (frame_of f) ms in
    let through =
    up_to_through x (inside f m) rest (no_start f m) ∙ ap (λ (l : List ℕ). inside f m ++ l) (up_to_next f ms) in
    let alone = through ∙ append-nil (inside f m) in
    rw (eq-eqb x x refl, alone, parts_through x (inside f m) rest (no_start f m), inside_needed f m)
    (frames_needed f ms)

-- AND NO OTHER PART IS: what is written has no needless escape
pub written_needed : (f : Framing) (after m : List ℕ) → frame_of f m ≡ start_of f ∷ after → escapes_needed f after ≡ true
unfolding frame_of
written_needed f after m e = ap (λ (l : List ℕ). escapes_needed f (drop 1 l)) (sym e) ∙ inside_needed f m

-- so a part that is read strictly had no needless escape
pub strict_needed : (f : Framing) (front : List ℕ) (last : ℕ) (m : List ℕ) → HandsOut Strict f front last m
    → escapes_needed f (front ++ (last ∷ [])) ≡ true
strict_needed f front last m r = written_needed f (front ++ (last ∷ [])) m (strict_read_then_write f front last m r)

stop_bytes : (f : Framing) → Bytes (stop_of f)
stop_bytes Binary = bytes_none
stop_bytes Ascii = bytes_cons 0x0D [] (lit≤ tt) bytes_none

-- the frame of m, as what it is read as
pub record FrameReads (rule : Escapes) (f : Framing) (m : List ℕ) : Type 0 where
  pub front : List ℕ
  pub last : ℕ
  pub is : frame_of f m ≡ start_of f ∷ front ++ (last ∷ [])
  pub reads : HandsOut rule f front last m
  pub needed : escapes_needed f (front ++ (last ∷ [])) ≡ true

-- EVERY FRAME IS SUCH A PART, so that the second round trip speaks of each: it hands out its message, and at its last
-- byte
pub frame_reads : (rule : Escapes) (f : Framing) (m : List ℕ) → check_of m ≡ 0 → Bytes m → FrameReads rule f m
unfolding frame_of
frame_reads rule f m h b =
    let body = body_bytes m (good_length m h) b in
    let l = last_decides rule f m h body in
    let same : inside f m ≡ l.front ++ (l.last ∷ []) = ap (drop 1) l.is in
    record {
      front = l.front;
      last = l.last;
      is = l.is;
      reads = record {
        bytes = subst Bytes same
            (bytes_append (coding f (body_of m)) (stop_of f) (coding_bytes f (body_of m) body) (stop_bytes f));
        alone = ap (among (start_of f)) (sym same) ∙ no_start f m;
        before = l.before;
        said = ap (judge rule f) (sym l.is ∙ sym (append-nil (frame_of f m))) ∙ judge_frame rule f m [] h body;
      };
      needed = ap (escapes_needed f) (sym same) ∙ inside_needed f m;
    }
