-- Laws of writes that later ones do again: what those leave is left whether or not the first ones were done.
-- Assumes nothing.
use Prim.Native.Nat.{ℕ, zero, suc, ◌+◌, ◌≤◌, ◌<◌}
use native.Mathlib.Omega.{arith}
use mathlib.Core.Path.{◌≡◌, refl, sym, ap, ap₂, subst, ◌∙◌}
use mathlib.Core.Bool.{Bool, true, false, cond, ◌&&◌, ◌||◌, false≢true}
use mathlib.Core.Bool.{or_assoc as either-assoc, or_comm as either-comm}
use mathlib.Core.List.{List, [], ◌∷◌, ◌++◌, flat_map, append-nil}
use lib.Bits.{bit_or, or_comm, or_zero_l, or_zero_r}
use lib.Dec.{eqb}
use lib.ListN.{length, get_or}
use lib.Seq.{ext_get_or}
use borrow.Author.Tests.{eq-eqb, ne_eqb, eqb-true, eqb-false}
use Rattle.standard.specs.Words.{up_to}
use Rattle.standard.specs.Table.{Write, stores, marks, done_all, stores_from}
use Rattle.standard.proofs.Words.{flat_map_append}
use Rattle.standard.proofs.Messages.{both_true, neither_true}
use Rattle.standard.proofs.Table.{Every, NotStored, or_assoc, done_all_length, done_all_append, left_by, left_at}
use Rattle.standard.proofs.Table.{done_all_at, left_at_append}
use Rattle.station_log.specs.Room.{stored, marked, again, all_again}

-- ---- one list after another

-- a byte is stored by both together where one of them stores it
pub stored_append : (p : ℕ) (a b : List Write) → stored p (a ++ b) ≡ (stored p a || stored p b)
unfolding stored
stored_append p [] b = refl
stored_append p (stores q c ∷ a) b =
    ap (λ t. eqb q p || t) (stored_append p a b) ∙ sym (either-assoc (eqb q p) (stored p a) (stored p b))
stored_append p (marks q bits ∷ a) b = stored_append p a b

-- and the bits are set that one of them sets
pub marked_append : (p : ℕ) (a b : List Write) → marked p (a ++ b) ≡ bit_or (marked p a) (marked p b)
unfolding marked
marked_append p [] b = sym (or_zero_l (marked p b))
marked_append p (stores q c ∷ a) b = marked_append p a b
marked_append p (marks q bits ∷ a) b = go (eqb q p) (marked_append p a b)
  where
    go : (same : Bool) → marked p (a ++ b) ≡ bit_or (marked p a) (marked p b)
        → cond same (bit_or bits (marked p (a ++ b))) (marked p (a ++ b))
        ≡ bit_or (cond same (bit_or bits (marked p a)) (marked p a)) (marked p b)
    go true e = ap (bit_or bits) e ∙ sym (or_assoc bits (marked p a) (marked p b))
    go false e = e

-- ---- lists of which the same is done again

-- they store at the same places and set the same bits
pub record Alike (a b : List Write) : Type 0 where
  pub bytes : (p : ℕ) → stored p a ≡ stored p b
  pub bits : (p : ℕ) → marked p a ≡ marked p b

-- a list and itself, and one after another
pub alike_self : (a : List Write) → Alike a a
alike_self a = record { bytes = λ p. refl; bits = λ p. refl }

pub alike_then : {a b c : List Write} → Alike a b → Alike b c → Alike a c
alike_then e f = record { bytes = λ p. e.bytes p ∙ f.bytes p; bits = λ p. e.bits p ∙ f.bits p }

-- the order of two lists is no matter
pub alike_turned : (a b : List Write) → Alike (a ++ b) (b ++ a)
alike_turned a b = record {
  bytes = λ p. stored_append p a b ∙ either-comm (stored p a) (stored p b) ∙ sym (stored_append p b a);
  bits = λ p. marked_append p a b ∙ or_comm (marked p a) (marked p b) ∙ sym (marked_append p b a);
}

-- the same ones before both
pub alike_more : {a b : List Write} (ws : List Write) → Alike a b → Alike (ws ++ a) (ws ++ b)
alike_more {a} {b} ws e = record {
  bytes = λ p. stored_append p ws a ∙ ap (λ t. stored p ws || t) (e.bytes p) ∙ sym (stored_append p ws b);
  bits = λ p. marked_append p ws a ∙ ap (bit_or (marked p ws)) (e.bits p) ∙ sym (marked_append p ws b);
}

-- both do the same again: one write, and all of a list
alike_one : {a b : List Write} → Alike a b → (w : Write) → again a w ≡ again b w
alike_one e (stores p c) = e.bytes p
alike_one e (marks p bits) = ap (λ (n : ℕ). eqb (bit_or bits n) n) (e.bits p)

pub alike_again : {a b : List Write} → Alike a b → (ws : List Write) → all_again a ws ≡ all_again b ws
unfolding all_again
alike_again e [] = refl
alike_again e (w ∷ ws) = ap₂ ◌&&◌ (alike_one e w) (alike_again e ws)

-- ---- what one list does again, more do again

-- be they behind it or before it
pub again_left : (a b : List Write) (w : Write) → again a w ≡ true → again (a ++ b) w ≡ true
again_left a b (stores p c) h = stored_append p a b ∙ rw h refl
again_left a b (marks p bits) h =
    let x = marked p a in
    let y = marked p b in
    rw (marked_append p a b)
    (eq-eqb _ _ (sym (or_assoc bits x y) ∙ ap (λ (n : ℕ). bit_or n y) (eqb-true (bit_or bits x) x h)))

pub again_right : (a b : List Write) (w : Write) → again b w ≡ true → again (a ++ b) w ≡ true
again_right a b w h = alike_one (alike_turned a b) w ∙ again_left b a w h

-- what one turn of a loop does again, all turns do
pub turn_again : (f : ℕ → List Write) (n j : ℕ) (w : Write) → j < n → again (f j) w ≡ true
    → again (flat_map f (up_to n)) w ≡ true
unfolding flat_map up_to
turn_again f zero j w l h = absurd (omega arith)
turn_again f (suc n) j w l h =
    subst (λ ws. again ws w ≡ true) (sym (flat_map_append f (up_to n) (n ∷ []) ∙ rw append-nil refl))
    (go (eqb j n) refl (λ k. turn_again f n j w k h))
  where
    go : (t : Bool) → eqb j n ≡ t → (j < n → again (flat_map f (up_to n)) w ≡ true)
        → again (flat_map f (up_to n) ++ f n) w ≡ true
    go true e more =
        again_right (flat_map f (up_to n)) (f n) w (subst (λ (k : ℕ). again (f k) w ≡ true) (eqb-true j n e) h)
    go false e more = let d = eqb-false j n e in again_left (flat_map f (up_to n)) (f n) w (more (omega arith))

-- nothing is stored where no write stores
pub unstored : (i : ℕ) (ws : List Write) → Every (NotStored i) ws → stored i ws ≡ false
unfolding stored
unstored i [] h = refl
unstored i (stores p b ∷ ws) h = rw (ne_eqb p i (λ e. h.0 (sym e))) (unstored i ws h.1)
unstored i (marks p bits ∷ ws) h = unstored i ws h.1

-- a run stores at each of its places
pub stored_run : (i place : ℕ) (bs : List ℕ) → place ≤ i → i < place + length bs → stored i (stores_from place bs) ≡ true
unfolding stored stores_from
stored_run i place [] lo hi = absurd (omega arith)
stored_run i place (b ∷ bs) lo hi = go (eqb place i) refl (stored_run i (suc place) bs)
  where
    go : (t : Bool) → eqb place i ≡ t
        → (suc place ≤ i → i < suc place + length bs → stored i (stores_from (suc place) bs) ≡ true)
        → (t || stored i (stores_from (suc place) bs)) ≡ true
    go true e more = refl
    go false e more = let n = eqb-false place i e in more (omega arith) (omega arith)

-- ---- WHAT LATER ONES DO AGAIN ADDS NOTHING to them

-- one write before them
again_adds : (w : Write) (a b : List Write) → again b w ≡ true → Alike a b → Alike (w ∷ a) b
unfolding stored marked
again_adds (stores q c) a b h e = record {
  bytes = λ p. ap (λ t. eqb q p || t) (e.bytes p) ∙ go p (eqb q p) refl;
  bits = e.bits;
}
  where
    go : (p : ℕ) (same : Bool) → eqb q p ≡ same → (same || stored p b) ≡ stored p b
    go p true f = sym (subst (λ (n : ℕ). stored n b ≡ true) (eqb-true q p f) h)
    go p false f = refl
again_adds (marks q bits) a b h e = record {
  bytes = e.bytes;
  bits = λ p. ap (λ (n : ℕ). cond (eqb q p) (bit_or bits n) n) (e.bits p) ∙ go p (eqb q p) refl;
}
  where
    go : (p : ℕ) (same : Bool) → eqb q p ≡ same → cond same (bit_or bits (marked p b)) (marked p b) ≡ marked p b
    go p true f =
        subst (λ (n : ℕ). bit_or bits (marked n b) ≡ marked n b) (eqb-true q p f)
        (eqb-true (bit_or bits (marked q b)) (marked q b) h)
    go p false f = refl

-- and a list
pub again_alike : (ws later : List Write) → all_again later ws ≡ true → Alike (ws ++ later) later
unfolding all_again
again_alike [] later h = alike_self later
again_alike (w ∷ ws) later h =
    let b = both_true (again later w) (all_again later ws) h in
    again_adds w (ws ++ later) later b.0 (again_alike ws later b.1)

-- nor to what is like them
pub alike_again_added : {a b : List Write} (ws : List Write) → all_again a ws ≡ true → Alike a b → Alike (ws ++ a) b
alike_again_added {a} ws h e = alike_then (again_alike ws a h) e

-- ---- what is left at a place

-- two numbers, either way round
turned : (a b : ℕ) → eqb a b ≡ eqb b a
turned a b = go (eqb b a) refl
  where
    go : (t : Bool) → eqb b a ≡ t → eqb a b ≡ t
    go true e = eq-eqb a b (sym (eqb-true b a e))
    go false e = ne_eqb a b (λ z. eqb-false b a e (sym z))

-- where a byte is stored, what stood there is no matter
pub left_at_stored : (i : ℕ) (ws : List Write) (x y : ℕ) → stored i ws ≡ true → left_at i ws x ≡ left_at i ws y
unfolding stored left_at
left_at_stored i [] x y h = absurd (false≢true h)
left_at_stored i (marks p bits ∷ ws) x y h =
    left_at_stored i ws (left_by i (marks p bits) x) (left_by i (marks p bits) y) h
left_at_stored i (stores p b ∷ ws) x y h = rw (turned i p) (go (eqb p i) h (left_at_stored i ws x y))
  where
    go : (same : Bool) → (same || stored i ws) ≡ true → (stored i ws ≡ true → left_at i ws x ≡ left_at i ws y)
        → left_at i ws (cond same b x) ≡ left_at i ws (cond same b y)
    go true h more = refl
    go false h more = more h

-- where none is, bits are set, all of them together
pub left_at_marked : (i : ℕ) (ws : List Write) (old : ℕ) → stored i ws ≡ false
    → left_at i ws old ≡ bit_or old (marked i ws)
unfolding stored marked left_at
left_at_marked i [] old h = sym (or_zero_r old)
left_at_marked i (stores p b ∷ ws) old h =
    let n = neither_true (eqb p i) (stored i ws) h in
    rw (turned i p, n.0) (left_at_marked i ws old n.1)
left_at_marked i (marks p bits ∷ ws) old h = rw (turned i p) (go (eqb p i) (λ x. left_at_marked i ws x h))
  where
    go : (same : Bool) → ((x : ℕ) → left_at i ws x ≡ bit_or x (marked i ws))
        → left_at i ws (cond same (bit_or old bits) old)
        ≡ bit_or old (cond same (bit_or bits (marked i ws)) (marked i ws))
    go true more = more (bit_or old bits) ∙ or_assoc old bits (marked i ws)
    go false more = more old

-- ---- WRITES THAT LATER ONES DO AGAIN MAY AS WELL NOT BE DONE

-- whatever the table is
pub again_done : (ws later : List Write) (t : List ℕ) → all_again later ws ≡ true
    → done_all later (done_all ws t) ≡ done_all later t
again_done ws later t h =
    sym (done_all_append ws later t)
    ∙ ext_get_or 0 (done_all (ws ++ later) t) (done_all later t)
    (done_all_length (ws ++ later) t ∙ sym (done_all_length later t)) at
  where
    left : (i old : ℕ) (b : Bool) → stored i later ≡ b → left_at i (ws ++ later) old ≡ left_at i later old
    left i old true e = left_at_append ws later i old ∙ left_at_stored i later (left_at i ws old) old e
    left i old false e =
        let a = again_alike ws later h in
        left_at_marked i (ws ++ later) old (a.bytes i ∙ e)
        ∙ ap (bit_or old) (a.bits i)
        ∙ sym (left_at_marked i later old e)

    at : (i : ℕ) → i < length (done_all (ws ++ later) t)
        → get_or (done_all (ws ++ later) t) i 0 ≡ get_or (done_all later t) i 0
    at i l =
        let k : i < length t = rw (done_all_length (ws ++ later) t) at l in
        done_all_at (ws ++ later) t i k
        ∙ left i (get_or t i 0) (stored i later) refl
        ∙ sym (done_all_at later t i k)
