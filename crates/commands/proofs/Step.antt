-- What one call does with a sound line is one of seven things, and the line stays sound. All that is said of runs
-- follows from these. Assumes nothing.
use Prim.Native.Nat.{ℕ, ◌+◌, ◌≤◌}
use native.Mathlib.Omega.{arith}
use mathlib.Core.Path.{◌≡◌, refl, sym, ap, subst}
use mathlib.Core.Bool.{Bool, true, false, cond, not, or-true, false≢true}
use mathlib.Core.List.{List, [], ◌∷◌, ◌++◌}
use lib.Dec.{eqb, leb}
use lib.ListN.{length, drop, length-append}
use lib.Seq.{append_snoc}
use borrow.Author.Tests.{eqb-true, eqb-false, leb-false, not-true, ne_eqb}
use Rattle.standard.specs.Words.{byte, first_of}
use Rattle.standard.specs.Messages.{number_of, among, check_of}
use Rattle.commands.specs.declared.Slot.{Slot}
use Rattle.commands.specs.Commands.{one_of_them, flagged, blank, used, unused, message_in, number_in, those}
use Rattle.commands.specs.Commands.{waiting_in, waiting, holds_one, sound, Answer, says, quiet, After, after}
use Rattle.commands.specs.Commands.{sent_once, ticked_once, goes_out, ended_by, again, take_tests, slot_of}
use Rattle.commands.specs.Commands.{take_of, tick_of, ends, telling, told_of}
use Rattle.commands.specs.Runs.{Call, take, tick, told, called, is_tick, taken_by, Each, Blank}
use Rattle.commands.proofs.Endings.{one_of_four}
use Rattle.commands.proofs.Flag.{slot_holds, good_length}
use Rattle.commands.proofs.Refusing.{check_other, take_other, taken, take_refused, told_refused}
use Rattle.commands.proofs.Refusing.{take_runs, tick_runs, told_runs}
use Rattle.commands.proofs.Form.{Front, Behind, Free, each_append, Form, form_waiting, form_free}
use Rattle.commands.proofs.Form.{form_sound, sound_form}

-- the numbers of the ways to end: given up, acknowledged, failed, rejected, replied
abbrev pub ways : List ℕ
ways = 1 ∷ 0x1D ∷ 0x1C ∷ 0x1F ∷ 0x12 ∷ []

-- a command, as it goes out
abbrev pub going_out : Slot → List ℕ
going_out s = flagged (message_in s)

-- a call that takes no command, whatever it answers
abbrev pub TakesNone : Call → Type 0
TakesNone c = (a : Answer) → taken_by c a ≡ []

-- a call, the commands that waited before it, its answer, and those that wait after it
pub data Step : Call → List Slot → Answer → List Slot → Type 0 where
  -- nothing is taken, counted or sent; a tick only where none waits
  stays : {c : Call} {ws : List Slot} (n : ℕ) → (n ≡ 22 → ⊥) → taken_by c (says n 0 []) ≡ []
      → (is_tick c ≡ true → ws ≡ []) → Step c ws (says n 0 []) ws
  -- a tick is counted
  counts : {s : Slot} {t : List Slot} → s.ticks ≤ 4 → Step tick (s ∷ t) quiet (ticked_once s ∷ t)
  -- the front goes out again
  repeats : {c : Call} {s : Slot} {t : List Slot} → TakesNone c → s.sent ≤ 3
      → Step c (s ∷ t) (says 0 0 (going_out s)) (sent_once s ∷ t)
  -- the only one ends
  empties : {c : Call} {s : Slot} {e : ℕ} → TakesNone c → among e ways ≡ true
      → Step c (s ∷ []) (says 0 e []) []
  -- the front ends, and the next one goes out
  moves : {c : Call} {s u : Slot} {t : List Slot} {e : ℕ} → TakesNone c → among e ways ≡ true
      → Step c (s ∷ u ∷ t) (says 0 e (going_out u)) (sent_once u ∷ t)
  -- a command is taken with none ahead of it, and goes out
  begins : {m : List ℕ} → Step (take m) [] (says 0 0 (going_out (slot_of m))) (sent_once (slot_of m) ∷ [])
  -- a command is taken behind others
  joins : {m : List ℕ} {s : Slot} {t : List Slot} → Step (take m) (s ∷ t) quiet (s ∷ (t ++ (slot_of m ∷ [])))

-- a call is one of these, and leaves two parts again; where the free slots are all zero they stay so
pub record Done (c : Call) (ws fs : List Slot) (r : After) : Type 0 where
  pub next : List Slot
  pub free : List Slot
  pub slots : r.slots ≡ next ++ free
  pub step : Step c ws r.answer next
  pub form : Form next free
  pub blanks : Blank fs → Blank free

-- ---- one slot after a call

sent_front : (s : Slot) → used s ≡ true → holds_one s ≡ true → s.sent ≤ 3 → Front (sent_once s)
unfolding holds_one
sent_front s u h few = record { taken = u; holds = h; once = omega arith; few = omega arith; early = omega arith }

ticked_front : (s : Slot) → Front s → s.ticks ≤ 4 → Front (ticked_once s)
unfolding holds_one
ticked_front s f early =
    record { taken = f.taken; holds = f.holds; once = f.once; few = f.few; early = omega arith }

-- ---- the line after a call

module _ (c : Call) (none : TakesNone c) (s : Slot) (t fs : List Slot) (f : Form (s ∷ t) fs) where
  again_goes : s.sent ≤ 3 → Done c (s ∷ t) fs (goes_out 0 (s ∷ (t ++ fs)))
  unfolding goes_out
  again_goes few =
      rw (not-true (unused s) f.waits.0.taken)
      (record {
        next = sent_once s ∷ t;
        free = fs;
        slots = refl;
        step = repeats none few;
        form = record {
          eight = f.eight;
          waits = (sent_front s f.waits.0.taken f.waits.0.holds few, f.waits.1);
          free = f.free;
        };
        blanks = λ b. b;
      })

  ended_moves : (e : ℕ) → among e ways ≡ true → Done c (s ∷ t) fs (ended_by e (s ∷ (t ++ fs)))
  unfolding goes_out
  ended_moves e way =
      rw (form_waiting (s ∷ t) fs f, form_free (s ∷ t) fs f) (go t f.eight f.waits.1)
    where
      left : Each Free (blank ∷ fs)
      left = (record { empty = refl; unsent = refl; uncounted = refl }, f.free)

      go : (t : List Slot) → length (s ∷ (t ++ fs)) ≡ 8 → Each Behind t
          → Done c (s ∷ t) fs (goes_out e (t ++ (blank ∷ fs)))
      go [] n b = record {
        next = [];
        free = blank ∷ fs;
        slots = refl;
        step = empties none way;
        form = record { eight = n; waits = tt; free = left };
        blanks = λ b. (refl, b);
      }
      go (u ∷ t) n b =
          let few : u.sent ≤ 3 = let x = b.0.unsent in omega arith in
          rw (not-true (unused u) b.0.taken)
          (record {
            next = sent_once u ∷ t;
            free = blank ∷ fs;
            slots = refl;
            step = moves none way;
            form = record {
              eight = simp length-append (omega (arith, simp length-append at n));
              waits = (sent_front u b.0.taken b.0.holds few, b.1);
              free = left;
            };
            blanks = λ b. (refl, b);
          })

  again_done : Done c (s ∷ t) fs (again s (s ∷ (t ++ fs)))
  again_done = go (leb 4 s.sent) refl
    where
      go : (r : Bool) → leb 4 s.sent ≡ r
          → Done c (s ∷ t) fs (cond r (ended_by 1 (s ∷ (t ++ fs))) (goes_out 0 (s ∷ (t ++ fs))))
      go true e = ended_moves 1 refl
      go false e = again_goes (omega (arith, leb-false 4 s.sent e))

-- a call that changes nothing
still : (c : Call) (n : ℕ) (ws fs : List Slot) → Form ws fs → (n ≡ 22 → ⊥) → taken_by c (says n 0 []) ≡ []
    → (is_tick c ≡ true → ws ≡ []) → Done c ws fs (after (says n 0 []) (ws ++ fs))
still c n ws fs f other none idle =
    record { next = ws; free = fs; slots = refl; step = stays n other none idle; form = f; blanks = λ b. b }

-- ---- the three calls

tick_done : (ws fs : List Slot) → Form ws fs → Done tick ws fs (tick_of (ws ++ fs))
unfolding taken_by
tick_done [] [] f = let n = f.eight in absurd (omega arith)
tick_done [] (s ∷ fs) f =
    rw (tick_runs (s ∷ fs) (form_sound [] (s ∷ fs) f), f.free.0.empty)
    (still tick 0 [] (s ∷ fs) f (λ e. omega arith) refl (λ e. refl))
tick_done (s ∷ t) fs f =
    rw (tick_runs (s ∷ (t ++ fs)) (form_sound (s ∷ t) fs f), not-true (unused s) f.waits.0.taken)
    (go (eqb (s.ticks + 1) 6) refl)
  where
    go : (r : Bool) → eqb (s.ticks + 1) 6 ≡ r
        → Done tick (s ∷ t) fs (cond r (again s (s ∷ (t ++ fs))) (after quiet (ticked_once s ∷ (t ++ fs))))
    go true e = again_done tick (λ a. refl) s t fs f
    go false e =
        let n = eqb-false (s.ticks + 1) 6 e in
        let early : s.ticks ≤ 4 = let x = f.waits.0.early in omega arith in
        record {
          next = ticked_once s ∷ t;
          free = fs;
          slots = refl;
          step = counts early;
          form = record { eight = f.eight; waits = (ticked_front s f.waits.0 early, f.waits.1); free = f.free };
          blanks = λ b. b;
        }

-- a message that ends the front is the number of a way to end
ends_way : (front n : ℕ) → ends front n ≡ true → among n ways ≡ true
ends_way front n h = rw (one_of_four front n h) (or-true (eqb n 1))

tells : (m : List ℕ) (ws fs : List Slot) → Form ws fs → Done (told m) ws fs (telling (number_of (byte 1 m)) (ws ++ fs))
unfolding taken_by is_tick
tells m [] [] f = let n = f.eight in absurd (omega arith)
tells m [] (s ∷ fs) f =
    rw f.free.0.empty (still (told m) 0 [] (s ∷ fs) f (λ e. omega arith) refl (λ e. refl))
tells m (s ∷ t) fs f =
    let n = number_of (byte 1 m) in
    rw (not-true (unused s) f.waits.0.taken) (go (ends (number_in s) n) refl (eqb n 0x1E))
  where
    go : (r : Bool) → ends (number_in s) (number_of (byte 1 m)) ≡ r → (q : Bool)
        → Done (told m) (s ∷ t) fs
        (cond r (ended_by (number_of (byte 1 m)) (s ∷ (t ++ fs)))
        (cond q (again s (s ∷ (t ++ fs))) (after quiet (s ∷ (t ++ fs)))))
    go true e q = ended_moves (told m) (λ a. refl) s t fs f (number_of (byte 1 m)) (ends_way _ _ e)
    go false e true = again_done (told m) (λ a. refl) s t fs f
    go false e false = still (told m) 0 (s ∷ t) fs f (λ e. omega arith) refl (λ e. absurd (false≢true e))

told_done : (m : List ℕ) (ws fs : List Slot) → Form ws fs → Done (told m) ws fs (told_of m (ws ++ fs))
unfolding taken_by is_tick
told_done m ws fs f = go (eqb (check_of m) 0) refl
  where
    safe : sound (ws ++ fs) ≡ true
    safe = form_sound ws fs f

    go : (r : Bool) → eqb (check_of m) 0 ≡ r → Done (told m) ws fs (told_of m (ws ++ fs))
    go true e = rw (told_runs (ws ++ fs) safe m (eqb-true _ _ e)) (tells m ws fs f)
    go false e =
        rw (told_refused (ws ++ fs) safe m (eqb-false _ _ e))
        (still (told m) (check_of m) ws fs f (check_other m) refl (λ e. absurd (false≢true e)))

module _ (m : List ℕ) (good : check_of m ≡ 0) (one : one_of_them (number_of (byte 1 m)) ≡ true) where
  holding : (unused (slot_of m) ≡ false) × (holds_one (slot_of m) ≡ true)
  holding = (ne_eqb (length m) 0 (λ e. omega (arith, good_length m good)), slot_holds m good one)

  placed_done : (ws fs : List Slot) → Form ws fs → (length ws ≡ 8 → ⊥)
      → let xs = ws ++ (slot_of m ∷ drop 1 fs) in
      Done (take m) ws fs (cond (eqb (length ws) 0) (goes_out 0 xs) (after quiet xs))
  unfolding goes_out
  placed_done [] [] f room = let n = f.eight in absurd (omega arith)
  placed_done [] (s ∷ fs) f room =
      rw holding.0
      (record {
        next = sent_once (slot_of m) ∷ [];
        free = fs;
        slots = refl;
        step = begins;
        form = record {
          eight = f.eight;
          waits = (sent_front (slot_of m) (ap not holding.0) holding.1 (omega arith), tt);
          free = f.free.1;
        };
        blanks = λ b. b.1;
      })
  placed_done (s ∷ t) [] f room = let n = f.eight in absurd (room (omega (arith, length-append t [])))
  placed_done (s ∷ t) (u ∷ fs) f room =
      rw (ne_eqb (length (s ∷ t)) 0 (λ e. omega arith))
      (record {
        next = s ∷ (t ++ (slot_of m ∷ []));
        free = fs;
        slots = ap (λ l. s ∷ l) (sym (append_snoc t (slot_of m) fs));
        step = joins;
        form = record {
          eight = simp length-append (omega (arith, simp length-append at f.eight));
          waits = (f.waits.0, each_append Behind t (slot_of m ∷ []) f.waits.1 (new, tt));
          free = f.free.1;
        };
        blanks = λ b. b.1;
      })
    where
      new : Behind (slot_of m)
      new = record { taken = ap not holding.0; holds = holding.1; unsent = refl; uncounted = refl }

take_done : (m : List ℕ) (ws fs : List Slot) → Form ws fs → Done (take m) ws fs (take_of m (ws ++ fs))
unfolding taken_by is_tick
take_done m ws fs f = go (eqb (first_of (take_tests m (ws ++ fs))) 0) refl
  where
    xs : List Slot
    xs = ws ++ fs

    go : (r : Bool) → eqb (first_of (take_tests m xs)) 0 ≡ r → Done (take m) ws fs (take_of m xs)
    go true e =
        let passes = eqb-true _ _ e in
        let ok = taken m xs passes in
        let free = rw (form_waiting ws fs f) at (eqb-false (waiting xs) 8 ok.room) in
        rw (take_runs m xs passes, form_waiting ws fs f, form_free ws fs f)
        (placed_done m ok.good ok.one ws fs f free)
    go false e =
        let bad = eqb-false _ _ e in
        rw (take_refused m xs bad)
        (still (take m) _ ws fs f (take_other m xs (form_sound ws fs f)) (rw (ne_eqb _ 0 bad))
        (λ e. absurd (false≢true e)))

done : (c : Call) (ws fs : List Slot) → Form ws fs → Done c ws fs (called c (ws ++ fs))
unfolding called
done (take m) ws fs f = take_done m ws fs f
done tick ws fs f = tick_done ws fs f
done (told m) ws fs f = told_done m ws fs f

-- EVERY CALL ON SOUND SLOTS is one of the seven
pub called_done : (c : Call) (xs : List Slot) → sound xs ≡ true → Done c (waiting_in xs) (those unused xs) (called c xs)
called_done c xs h =
    let x = sound_form xs h in
    subst (λ l. Done c (waiting_in xs) (those unused xs) (called c l)) (sym x.parts)
    (done c (waiting_in xs) (those unused xs) x.form)

-- the commands that wait, before it and after it
pub step : (c : Call) (xs : List Slot) → sound xs ≡ true
    → Step c (waiting_in xs) (called c xs).answer (waiting_in (called c xs).slots)
step c xs h =
    let x = called_done c xs h in
    rw (x.slots, form_waiting x.next x.free x.form) x.step
