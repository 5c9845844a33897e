-- Laws of soundness: a sound line is the commands that wait, the first of which is outstanding, and then the free
-- slots; and such a line is sound. Assumes nothing.
use Prim.Native.Nat.{◌≤◌}
use native.Mathlib.Omega.{arith}
use mathlib.Core.Path.{◌≡◌, refl, ap}
use mathlib.Core.Bool.{Bool, true, false, cond, not, ◌&&◌}
use mathlib.Core.List.{List, [], ◌∷◌, ◌++◌}
use lib.Dec.{eqb, leb}
use lib.ListN.{length}
use borrow.Author.Tests.{eqb-true, leb-true, eq-eqb, le-leb, not-true}
use Rattle.standard.specs.Messages.{within}
use Rattle.standard.proofs.Messages.{both_true}
use Rattle.commands.specs.declared.Slot.{Slot}
use Rattle.commands.specs.Commands.{used, unused, those, every, waiting_in, used_first, holds_one, outstanding, idle}
use Rattle.commands.specs.Commands.{only_first, sound}
use Rattle.commands.specs.Runs.{Each}

-- ---- one slot

-- the first command: it has gone out one to four times, with 0 to 5 ticks counted since
pub record Front (s : Slot) : Type 0 where
  pub taken : used s ≡ true
  pub holds : holds_one s ≡ true
  pub once : 1 ≤ s.sent
  pub few : s.sent ≤ 4
  pub early : s.ticks ≤ 5

-- a command behind it
pub record Behind (s : Slot) : Type 0 where
  pub taken : used s ≡ true
  pub holds : holds_one s ≡ true
  pub unsent : s.sent ≡ 0
  pub uncounted : s.ticks ≡ 0

-- a slot that holds none
pub record Free (s : Slot) : Type 0 where
  pub empty : unused s ≡ true
  pub unsent : s.sent ≡ 0
  pub uncounted : s.ticks ≡ 0

outstanding_front : (s : Slot) → used s ≡ true → holds_one s ≡ true → outstanding s ≡ true → Front s
outstanding_front s u g o =
    let counts = both_true (within 1 s.sent 4) (leb s.ticks 5) o in
    let times = both_true (leb 1 s.sent) (leb s.sent 4) counts.0 in
    record {
      taken = u;
      holds = g;
      once = leb-true _ _ times.0;
      few = leb-true _ _ times.1;
      early = leb-true _ _ counts.1;
    }

front_outstanding : (s : Slot) → Front s → outstanding s ≡ true
front_outstanding s f = rw (le-leb 1 s.sent f.once, le-leb s.sent 4 f.few, le-leb s.ticks 5 f.early)

idle_counts : (s : Slot) → idle s ≡ true → (s.sent ≡ 0) × (s.ticks ≡ 0)
idle_counts s i =
    let x = both_true (eqb s.sent 0) (eqb s.ticks 0) i in
    (eqb-true _ _ x.0, eqb-true _ _ x.1)

counts_idle : (s : Slot) → s.sent ≡ 0 → s.ticks ≡ 0 → idle s ≡ true
counts_idle s p q = rw (eq-eqb s.sent 0 p, eq-eqb s.ticks 0 q)

-- ---- slots in a row

pub each_append : (P : Slot → Type 0) (a b : List Slot) → Each P a → Each P b → Each P (a ++ b)
each_append P [] b p q = q
each_append P (s ∷ a) b p q = (p.0, each_append P a b p.1 q)

-- a property that a test shows
each_every : (P : Slot → Type 0) (p : Slot → Bool) → ((s : Slot) → P s → p s ≡ true) → (l : List Slot) → Each P l
    → every p l ≡ true
unfolding every
each_every P p h [] e = refl
each_every P p h (s ∷ l) e = rw (h s e.0, each_every P p h l e.1)

every_append : (p : Slot → Bool) (a b : List Slot) → every p a ≡ true → every p b ≡ true → every p (a ++ b) ≡ true
unfolding every
every_append p [] b h k = k
every_append p (s ∷ a) b h k =
    let x = both_true (p s) (every p a) h in rw (x.0, every_append p a b x.1 k)

-- free ones: none waits
pub free_those : (l : List Slot) → every unused l ≡ true → (those used l ≡ []) × (those unused l ≡ l)
unfolding every those
free_those [] h = (refl, refl)
free_those (s ∷ l) h =
    let x = both_true (unused s) (every unused l) h in
    let y = free_those l x.1 in
    (rw x.0 y.0, rw x.0 (ap (λ r. s ∷ r) y.1))

-- used ones, and free ones behind them: the first are those that wait, and the others those that do not
used_those : (ws fs : List Slot) → every used ws ≡ true → every unused fs ≡ true
    → (those used (ws ++ fs) ≡ ws) × (those unused (ws ++ fs) ≡ fs) × (used_first (ws ++ fs) ≡ true)
unfolding every those used_first
used_those [] fs u f = ((free_those fs f).0, (free_those fs f).1, free_first fs f)
  where
    free_first : (l : List Slot) → every unused l ≡ true → used_first l ≡ true
    free_first [] h = refl
    free_first (s ∷ l) h = let x = both_true (unused s) (every unused l) h in rw x.0 x.1
used_those (s ∷ ws) fs u f =
    let x = both_true (used s) (every used ws) u in
    let e = not-true (unused s) x.0 in
    let y = used_those ws fs x.1 f in
    (rw e (ap (λ r. s ∷ r) y.0), rw e y.1, rw e y.2)

-- ---- sound slots

-- the commands that wait: the first is outstanding
abbrev pub Waits : List Slot → Type 0
Waits [] = Unit
Waits (s ∷ t) = Front s × Each Behind t

-- eight slots in two parts, the commands that wait and the free slots
pub record Form (ws fs : List Slot) : Type 0 where
  pub eight : length (ws ++ fs) ≡ 8
  pub waits : Waits ws
  pub free : Each Free fs

-- the two parts of slots none of which has been sent
record Parts (xs ws fs : List Slot) : Type 0 where
  parts : xs ≡ ws ++ fs
  behind : Each Behind ws
  free : Each Free fs

free_each : (l : List Slot) → every unused l ≡ true → every idle l ≡ true → Each Free l
unfolding every
free_each [] u i = tt
free_each (s ∷ l) u i =
    let x = both_true (unused s) (every unused l) u in
    let y = both_true (idle s) (every idle l) i in
    let z = idle_counts s y.0 in
    (record { empty = x.0; unsent = z.0; uncounted = z.1 }, free_each l x.1 y.1)

unsent_parts : (xs : List Slot) → used_first xs ≡ true → every holds_one (waiting_in xs) ≡ true → every idle xs ≡ true
    → Parts xs (waiting_in xs) (those unused xs)
unfolding used_first every those
unsent_parts [] u g i = record { parts = refl; behind = tt; free = tt }
unsent_parts (s ∷ t) u g i =
    let x = both_true (idle s) (every idle t) i in
    go (unused s) refl u g (λ v h. unsent_parts t v h x.1)
  where
    go : (e : Bool) → unused s ≡ e → cond (not e) (used_first t) (every unused t) ≡ true
        → every holds_one (cond (not e) (s ∷ waiting_in t) (waiting_in t)) ≡ true
        → (used_first t ≡ true → every holds_one (waiting_in t) ≡ true → Parts t (waiting_in t) (those unused t))
        → Parts (s ∷ t) (cond (not e) (s ∷ waiting_in t) (waiting_in t))
        (cond e (s ∷ those unused t) (those unused t))
    go true e u g h =
        let x = free_those t u in
        let f : Each Free (s ∷ t) = free_each (s ∷ t) (rw e u) i in
        rw (x.0, x.1) (record { parts = refl; behind = tt; free = f })
    go false e u g h =
        let x = both_true (holds_one s) (every holds_one (waiting_in t)) g in
        let y = both_true (idle s) (every idle t) i in
        let z = idle_counts s y.0 in
        let p = h u x.1 in
        record {
          parts = ap (λ r. s ∷ r) p.parts;
          behind = (record { taken = ap not e; holds = x.0; unsent = z.0; uncounted = z.1 }, p.behind);
          free = p.free;
        }

-- what soundness says of slots
pub record Sound (xs ws fs : List Slot) : Type 0 where
  pub parts : xs ≡ ws ++ fs
  pub form : Form ws fs

first_form : (s : Slot) (t : List Slot) → length (s ∷ t) ≡ 8 → used_first (s ∷ t) ≡ true
    → every holds_one (waiting_in (s ∷ t)) ≡ true → only_first (s ∷ t) ≡ true
    → Sound (s ∷ t) (waiting_in (s ∷ t)) (those unused (s ∷ t))
unfolding used_first every those
first_form s t n u g o = go (unused s) refl u g o
  where
    go : (e : Bool) → unused s ≡ e → cond (not e) (used_first t) (every unused t) ≡ true
        → every holds_one (cond (not e) (s ∷ waiting_in t) (waiting_in t)) ≡ true
        → (cond (not e) (outstanding s) (idle s) && every idle t) ≡ true
        → Sound (s ∷ t) (cond (not e) (s ∷ waiting_in t) (waiting_in t)) (cond e (s ∷ those unused t) (those unused t))
    go true e u g o =
        let x = free_those t u in
        let f : Each Free (s ∷ t) = free_each (s ∷ t) (rw e u) o in
        rw (x.0, x.1) (record { parts = refl; form = record { eight = n; waits = tt; free = f } })
    go false e u g o =
        let x = both_true (holds_one s) (every holds_one (waiting_in t)) g in
        let y = both_true (outstanding s) (every idle t) o in
        let p = unsent_parts t u x.1 y.1 in
        let front = outstanding_front s (ap not e) x.0 y.0 in
        record {
          parts = ap (λ r. s ∷ r) p.parts;
          form = record { eight = rw p.parts at n; waits = (front, p.behind); free = p.free };
        }

-- the four tests of soundness
pub record Tests (xs : List Slot) : Type 0 where
  pub eight : length xs ≡ 8
  pub first : used_first xs ≡ true
  pub hold : every holds_one (waiting_in xs) ≡ true
  pub only : only_first xs ≡ true

pub sound_tests_lem : (xs : List Slot) → sound xs ≡ true → Tests xs
unfolding sound
sound_tests_lem xs h =
    let a = both_true (eqb (length xs) 8 && used_first xs && every holds_one (waiting_in xs)) (only_first xs) h in
    let b = both_true (eqb (length xs) 8 && used_first xs) (every holds_one (waiting_in xs)) a.0 in
    let d = both_true (eqb (length xs) 8) (used_first xs) b.0 in
    record { eight = eqb-true _ _ d.0; first = d.1; hold = b.1; only = a.1 }

-- SOUND SLOTS are those that wait, and then the free ones
pub sound_form : (xs : List Slot) → sound xs ≡ true → Sound xs (waiting_in xs) (those unused xs)
sound_form xs h = go xs (sound_tests_lem xs h)
  where
    go : (xs : List Slot) → Tests xs → Sound xs (waiting_in xs) (those unused xs)
    go [] t = let n = t.eight in absurd (omega arith)
    go (s ∷ r) t = first_form s r t.eight t.first t.hold t.only

-- and the first of those that wait is outstanding
pub sound_waits : (xs : List Slot) → sound xs ≡ true → Waits (waiting_in xs)
sound_waits xs h = (sound_form xs h).form.waits

waits_used : (ws : List Slot) → Waits ws → (every used ws ≡ true) × (every holds_one ws ≡ true)
unfolding every
waits_used [] w = (refl, refl)
waits_used (s ∷ t) w =
    let taken = each_every Behind used (λ s b. b.taken) t w.1 in
    let holds = each_every Behind holds_one (λ s b. b.holds) t w.1 in
    (rw (w.0.taken, taken), rw (w.0.holds, holds))

free_unused : (fs : List Slot) → Each Free fs → every unused fs ≡ true
free_unused = each_every Free unused (λ s f. f.empty)

-- those that wait are found again
pub form_waiting : (ws fs : List Slot) → Form ws fs → waiting_in (ws ++ fs) ≡ ws
form_waiting ws fs f = (used_those ws fs (waits_used ws f.waits).0 (free_unused fs f.free)).0

-- and the free ones
pub form_free : (ws fs : List Slot) → Form ws fs → those unused (ws ++ fs) ≡ fs
form_free ws fs f = (used_those ws fs (waits_used ws f.waits).0 (free_unused fs f.free)).1

free_idle : (fs : List Slot) → Each Free fs → every idle fs ≡ true
free_idle = each_every Free idle (λ s f. counts_idle s f.unsent f.uncounted)

only_first_lem : (ws fs : List Slot) → Waits ws → Each Free fs → only_first (ws ++ fs) ≡ true
unfolding every
only_first_lem [] [] w f = refl
only_first_lem [] (s ∷ fs) w f = rw f.0.empty (free_idle (s ∷ fs) f)
only_first_lem (s ∷ t) fs w f =
    let behind = each_every Behind idle (λ s b. counts_idle s b.unsent b.uncounted) t w.1 in
    rw (not-true (unused s) w.0.taken, front_outstanding s w.0) (every_append idle t fs behind (free_idle fs f))

-- AND SUCH SLOTS ARE SOUND
pub form_sound : (ws fs : List Slot) → Form ws fs → sound (ws ++ fs) ≡ true
unfolding sound
form_sound ws fs f =
    let u = waits_used ws f.waits in
    rw (
      eq-eqb (length (ws ++ fs)) 8 f.eight,
      (used_those ws fs u.0 (free_unused fs f.free)).2,
      form_waiting ws fs f,
      u.1,
    ) (only_first_lem ws fs f.waits f.free)
