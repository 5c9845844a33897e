-- What the definitions say of all slots at once, said of each slot and the one beside it.
--     sound_chain      soundness, slot by slot
--     moves            the used ones behind the front move up by one
--     puts             a command in the first free slot
--     empty_line, some_line, full      none waits, some do, all do
-- Assumes nothing.
use Prim.Native.Nat.{suc, ◌<◌}
use native.Mathlib.Omega.{arith}
use mathlib.Core.Path.{◌≡◌, refl, sym, ap, ◌∙◌}
use mathlib.Core.Bool.{Bool, true, false, cond, ◌&&◌, and-true, and_assoc}
use mathlib.Core.List.{List, [], ◌∷◌, ◌++◌}
use lib.Dec.{eqb, eqb-zero-suc, eqb-suc-zero, eqb-suc-suc}
use lib.ListN.{length, drop}
use Rattle.standard.proofs.Messages.{both_true}
use Rattle.commands.specs.declared.Slot.{Slot}
use Rattle.commands.specs.Commands.{used, unused, blank, those, every, waiting_in, waiting, used_first, sound, moved_up}
use Rattle.commands.specs.Places.{front_ok, behind_ok, each_behind}
use Rattle.commands.proofs.Form.{free_those}
use Rattle.commands.proofs.Slotwise.{first_free, waits_free, frees_free, first_used, waits_used, frees_used, sound_pairs}

-- what stands in a slot once the front has ended, of the slot and the one behind it
unfoldable pub moved_to : Slot → Slot → Slot
moved_to s behind = cond (used behind) behind (cond (used s) blank s)

-- what stands in a slot once a command is taken; first: every slot before it is used
unfoldable pub put_in : Bool → Slot → Slot → Slot
put_in first s new = cond (first && unused s) new s

-- where every slot is free none waits, and the free ones are all
none_waits : (t : List Slot) → every unused t ≡ true → waiting_in t ≡ []
none_waits t h = (free_those t h).0

all_free : (t : List Slot) → every unused t ≡ true → those unused t ≡ t
all_free t h = (free_those t h).1

-- ---- soundness

-- some slots are sound behind another, if what was looked at before is
unfoldable pub chain : Bool → Slot → List Slot → Bool
chain ok before [] = ok
chain ok before (s ∷ t) = chain (ok && behind_ok before s) s t

-- what is looked at before comes first
chain_first : (ok : Bool) (before : Slot) (t : List Slot) → (ok && chain true before t) ≡ chain ok before t
unfolding chain
chain_first ok before [] = and-true ok
chain_first ok before (s ∷ t) =
    ap (◌&&◌ ok) (sym (chain_first (behind_ok before s) s t))
    ∙ sym (and_assoc ok (behind_ok before s) (chain true s t))
    ∙ chain_first (ok && behind_ok before s) s t

pairs_chain : (s : Slot) (t : List Slot) → each_behind (s ∷ t) ≡ chain true s t
unfolding chain
pairs_chain s [] = refl
pairs_chain s (b ∷ t) = ap (◌&&◌ (behind_ok s b)) (pairs_chain b t) ∙ chain_first (behind_ok s b) b t

-- eight slots are sound when the first is, and each other behind the one before it
pub sound_chain : (s : Slot) (t : List Slot) → length t ≡ 7 → sound (s ∷ t) ≡ chain (front_ok s) s t
sound_chain s t h =
    sound_pairs (s ∷ t) (ap suc h) ∙ ap (◌&&◌ (front_ok s)) (pairs_chain s t) ∙ chain_first (front_ok s) s t

-- ---- the used ones move up

-- each slot once the front has ended, by the one behind it
unfoldable pub moved_row : Slot → List Slot → List Slot
moved_row s [] = moved_to s blank ∷ []
moved_row s (b ∷ t) = moved_to s b ∷ moved_row b t

-- behind the last used one every slot stays
stays : (s : Slot) (t : List Slot) → unused s ≡ true → every unused t ≡ true → moved_row s t ≡ s ∷ t
unfolding moved_row moved_to every
stays s [] e h = rw e
stays s (b ∷ t) e h =
    let two = both_true (unused b) (every unused t) h in rw (two.0, e) (ap (◌∷◌ s) (stays b t two.0 two.1))

-- the slots from b on, once a used one before them has left: `next`, the same for those behind it
moves_at : (s b : Slot) (t : List Slot) (next : unused b ≡ false → used_first t ≡ true
    → (waiting_in t ++ (blank ∷ those unused t)) ≡ moved_row b t)
    (f : Bool) → unused b ≡ f → unused s ≡ false → used_first (b ∷ t) ≡ true
    → (waiting_in (b ∷ t) ++ (blank ∷ those unused (b ∷ t))) ≡ (moved_to s b ∷ moved_row b t)
unfolding moved_to
moves_at s b t next true f e h =
    let free = sym (first_free b t f) ∙ h in
    rw (waits_free b t f, frees_free b t f, none_waits t free, all_free t free, stays b t f free, f, e)
moves_at s b t next false f e h =
    rw (waits_used b t f, frees_used b t f, f) (ap (◌∷◌ b) (next f (sym (first_used b t f) ∙ h)))

moves_behind : (s : Slot) (t : List Slot) → unused s ≡ false → used_first t ≡ true
    → (waiting_in t ++ (blank ∷ those unused t)) ≡ moved_row s t
unfolding moved_row moved_to those
moves_behind s [] e h = rw e
moves_behind s (b ∷ t) e h = moves_at s b t (moves_behind b t) (unused b) refl e h

pub moves : (s : Slot) (t : List Slot) → unused s ≡ false → used_first (s ∷ t) ≡ true → moved_up (s ∷ t) ≡ moved_row s t
moves s t e h = rw (waits_used s t e, frees_used s t e) (moves_behind s t e (sym (first_used s t e) ∙ h))

-- ---- a command in the first free slot

-- each slot once a command is taken; first: every slot before these is used
unfoldable pub put_row : Slot → Bool → List Slot → List Slot
put_row new first [] = []
put_row new first (s ∷ t) = put_in first s new ∷ put_row new (used s) t

untouched : (new : Slot) (t : List Slot) → every unused t ≡ true → put_row new false t ≡ t
unfolding put_row put_in every
untouched new [] h = refl
untouched new (s ∷ t) h =
    let two = both_true (unused s) (every unused t) h in rw two.0 (ap (◌∷◌ s) (untouched new t two.1))

puts_at : (new s : Slot) (t : List Slot) (next : used_first t ≡ true → waiting t < length t
    → (waiting_in t ++ (new ∷ drop 1 (those unused t))) ≡ put_row new true t)
    (e : Bool) → unused s ≡ e → used_first (s ∷ t) ≡ true → waiting (s ∷ t) < length (s ∷ t)
    → (waiting_in (s ∷ t) ++ (new ∷ drop 1 (those unused (s ∷ t)))) ≡ (put_in true s new ∷ put_row new (used s) t)
unfolding put_in
puts_at new s t next true e h k =
    let free = sym (first_free s t e) ∙ h in
    rw (waits_free s t e, frees_free s t e, none_waits t free, all_free t free, e)
    (ap (◌∷◌ new) (sym (untouched new t free)))
puts_at new s t next false e h k =
    let more : waiting (s ∷ t) ≡ suc (waiting t) = ap length (waits_used s t e) in
    rw (waits_used s t e, frees_used s t e, e)
    (ap (◌∷◌ s) (next (sym (first_used s t e) ∙ h) (omega (arith, k, more))))

-- where a slot is free
pub puts : (new : Slot) (t : List Slot) → used_first t ≡ true → waiting t < length t
    → (waiting_in t ++ (new ∷ drop 1 (those unused t))) ≡ put_row new true t
unfolding put_row
puts new [] h k = absurd (omega (arith, k))
puts new (s ∷ t) h k = puts_at new s t (puts new t) (unused s) refl h k

-- ---- none waits, all wait

-- behind a free slot none waits
pub empty_line : (s : Slot) (t : List Slot) → unused s ≡ true → used_first (s ∷ t) ≡ true → waiting_in (s ∷ t) ≡ []
empty_line s t e h = waits_free s t e ∙ none_waits t (sym (first_free s t e) ∙ h)

-- where the first is used some wait
pub some_line : (s : Slot) (t : List Slot) → unused s ≡ false → eqb (waiting (s ∷ t)) 0 ≡ false
some_line s t e = rw (waits_used s t e) (eqb-suc-zero (waiting t))

-- the last of some slots
unfoldable pub last_of : Slot → List Slot → Slot
last_of s [] = s
last_of s (b ∷ t) = last_of b t

last_free : (s : Slot) (t : List Slot) → unused s ≡ true → every unused t ≡ true → unused (last_of s t) ≡ true
unfolding last_of every
last_free s [] e h = e
last_free s (b ∷ t) e h = let two = both_true (unused b) (every unused t) h in last_free b t two.0 two.1

full_at : (s : Slot) (t : List Slot) (next : unused s ≡ false → used_first t ≡ true
    → eqb (waiting t) (length t) ≡ used (last_of s t))
    (e : Bool) → unused s ≡ e → used_first (s ∷ t) ≡ true → eqb (waiting (s ∷ t)) (suc (length t)) ≡ used (last_of s t)
full_at s t next true e h =
    let free = sym (first_free s t e) ∙ h in
    rw (waits_free s t e, none_waits t free, last_free s t e free) (eqb-zero-suc (length t))
full_at s t next false e h =
    rw (waits_used s t e) (eqb-suc-suc (waiting t) (length t) ∙ next e (sym (first_used s t e) ∙ h))

full_behind : (s : Slot) (t : List Slot) → unused s ≡ false → used_first t ≡ true
    → eqb (waiting t) (length t) ≡ used (last_of s t)
unfolding last_of those
full_behind s [] e h = rw e
full_behind s (b ∷ t) e h = full_at b t (full_behind b t) (unused b) refl h

-- all wait exactly if the last does
pub full : (s : Slot) (t : List Slot) → used_first (s ∷ t) ≡ true
    → eqb (waiting (s ∷ t)) (suc (length t)) ≡ used (last_of s t)
full s t h = full_at s t (full_behind s t) (unused s) refl h
