-- What the definitions say of all slots at once, as the code looks at them.
--     sound_pairs      soundness, each slot and the one before it
--     waits_most       no more wait than there are slots
--     those_filter     those that pass a test, by std's word
--     moves            the used ones behind the front move up by one
--     puts             a command in the first free slot
-- Assumes nothing.
use Prim.Native.Nat.{ℕ, suc, ◌+◌, ◌-◌, ◌<◌, ◌≤◌}
use native.Mathlib.Omega.{arith}
use mathlib.Core.Path.{◌≡◌, refl, sym, ap, ◌∙◌}
use mathlib.Core.Bool.{Bool, true, false, cond, ◌&&◌, and-true, and-false}
use mathlib.Core.List.{List, [], ◌∷◌, ◌++◌}
use lib.ListN.{length, drop, length-append}
use lib.Seq.{take-append_seam, set-append_seam}
use Rattle.std.specs.List.{copy_within, count_by, filter, slice_set}
use Rattle.std.proofs.lemmas.List.Sums.{length-filter}
use Rattle.commands.specs.declared.Slot.{Slot}
use Rattle.commands.specs.Commands.{
  used,
  unused,
  blank,
  those,
  every,
  waiting_in,
  waiting,
  used_first,
  holds_one,
  outstanding,
  idle,
  sound,
  moved_up,
}
use Rattle.commands.specs.Places.{front_ok, behind_ok, front, each_behind}
use Rattle.commands.proofs.Form.{sound_form}

-- ---- of two values

-- a test that comes later comes first
sooner : (x i y : Bool) → (x && (i && y)) ≡ (i && (x && y))
sooner x true y = refl
sooner x false y = and-false x

both_sooner : (f h x i y : Bool) → ((f && (h && x)) && (i && y)) ≡ ((i && h) && ((f && x) && y))
both_sooner f true x i y = sooner (f && x) i y ∙ sym (ap (λ (t : Bool). t && ((f && x) && y)) (and-true i))
both_sooner f false x i y =
    ap (λ (t : Bool). t && (i && y)) (and-false f)
    ∙ sym (ap (λ (t : Bool). t && ((f && x) && y)) (and-false i))

-- ---- one slot more

module _ (s : Slot) (t : List Slot) where
  module _ (e : unused s ≡ true) where
    pub first_free : used_first (s ∷ t) ≡ every unused t
    unfolding used_first
    first_free = rw e

    pub waits_free : waiting_in (s ∷ t) ≡ waiting_in t
    unfolding those
    waits_free = rw e

    pub frees_free : those unused (s ∷ t) ≡ s ∷ those unused t
    unfolding those
    frees_free = rw e

    every_free : every unused (s ∷ t) ≡ every unused t
    unfolding every
    every_free = rw e

  module _ (e : unused s ≡ false) where
    pub first_used : used_first (s ∷ t) ≡ used_first t
    unfolding used_first
    first_used = rw e

    pub waits_used : waiting_in (s ∷ t) ≡ s ∷ waiting_in t
    unfolding those
    waits_used = rw e

    pub frees_used : those unused (s ∷ t) ≡ those unused t
    unfolding those
    frees_used = rw e

    none_free : every unused (s ∷ t) ≡ false
    unfolding every
    none_free = rw e

-- no more wait than there are slots
most_at : (s : Slot) (t : List Slot) (e : Bool) → unused s ≡ e → waiting t ≤ length t → waiting (s ∷ t) ≤ suc (length t)
most_at s t true e h = let same : waiting (s ∷ t) ≡ waiting t = ap length (waits_free s t e) in omega (arith, h, same)
most_at s t false e h =
    let more : waiting (s ∷ t) ≡ suc (waiting t) = ap length (waits_used s t e) in omega (arith, h, more)

pub waits_most : (t : List Slot) → waiting t ≤ length t
unfolding those
waits_most [] = omega arith
waits_most (s ∷ t) = most_at s t (unused s) refl (waits_most t)

-- ---- soundness

-- what soundness asks of the slots behind one
abbrev rest : Slot → List Slot → Bool
rest s t = (used_first (s ∷ t) && every holds_one (waiting_in t)) && every idle t

-- behind a slot that is used or free, one that is used or free
module _ (s b : Slot) (t : List Slot) where
  free_behind : unused b ≡ true → (e : Bool) → unused s ≡ e → used_first (s ∷ b ∷ t) ≡ used_first (b ∷ t)
  free_behind f true e = first_free s (b ∷ t) e ∙ every_free b t f ∙ sym (first_free b t f)
  free_behind f false e = first_used s (b ∷ t) e

  rest_free : unused b ≡ true → rest s (b ∷ t) ≡ (behind_ok s b && rest b t)
  unfolding every behind_ok
  rest_free f =
      rw (free_behind f (unused s) refl, waits_free b t f, f)
      (sooner (used_first (b ∷ t) && every holds_one (waiting_in t)) (idle b) (every idle t))

  rest_used : unused b ≡ false → (e : Bool) → unused s ≡ e → rest s (b ∷ t) ≡ (behind_ok s b && rest b t)
  unfolding every behind_ok
  rest_used f true e = rw (first_free s (b ∷ t) e, none_free b t f, f, e, and-false (idle b))
  rest_used f false e =
      rw (first_used s (b ∷ t) e, waits_used b t f, f, e, and-true (idle b))
      (both_sooner (used_first (b ∷ t)) (holds_one b) (every holds_one (waiting_in t)) (idle b) (every idle t))

  rest_one : (f : Bool) → unused b ≡ f → rest s (b ∷ t) ≡ (behind_ok s b && rest b t)
  rest_one true e = rest_free e
  rest_one false e = rest_used e (unused s) refl

rest_none : (s : Slot) (e : Bool) → unused s ≡ e → rest s [] ≡ true
unfolding used_first every those
rest_none s true e = rw e
rest_none s false e = rw e

rest_pairs : (s : Slot) (t : List Slot) → rest s t ≡ each_behind (s ∷ t)
rest_pairs s [] = rest_none s (unused s) refl
rest_pairs s (b ∷ t) = rest_one s b t (unused b) refl ∙ ap (◌&&◌ (behind_ok s b)) (rest_pairs b t)

front_chain : (s : Slot) (t : List Slot) (e : Bool) → unused s ≡ e → length t ≡ 7
    → sound (s ∷ t) ≡ (front_ok s && rest s t)
unfolding sound every front_ok
front_chain s t true e h =
    rw (h, waits_free s t e, e) (sooner (used_first (s ∷ t) && every holds_one (waiting_in t)) (idle s) (every idle t))
front_chain s t false e h =
    rw (h, waits_used s t e, e)
    (both_sooner (used_first (s ∷ t)) (holds_one s) (every holds_one (waiting_in t)) (outstanding s) (every idle t))

-- eight slots are sound when the first is, and each other behind the one before it
pub sound_pairs : (xs : List Slot) → length xs ≡ 8 → sound xs ≡ (front_ok (front xs) && each_behind xs)
sound_pairs [] h = absurd (omega (arith, h))
sound_pairs (s ∷ t) h = front_chain s t (unused s) refl (omega (arith, h)) ∙ ap (◌&&◌ (front_ok s)) (rest_pairs s t)

module _ (xs : List Slot) (h : length xs ≡ 8) where
  pub front_decides : front_ok (front xs) ≡ false → false ≡ sound xs
  front_decides e = sym (sound_pairs xs h ∙ rw e)

  pub others_decide : (b : Bool) → front_ok (front xs) ≡ true → b ≡ each_behind xs → b ≡ sound xs
  others_decide b e f = f ∙ sym (sound_pairs xs h ∙ rw e)

-- ---- those that wait, as they are counted

those_filter : (p : Slot → Bool) (xs : List Slot) → filter p xs ≡ those p xs
unfolding those
those_filter p [] = refl
those_filter p (s ∷ t) = ap (λ (r : List Slot). cond (p s) (s ∷ r) r) (those_filter p t)

pub counted : (xs : List Slot) (n : ℕ) → n ≡ count_by used xs → n ≡ waiting xs
counted xs n e = e ∙ sym (length-filter used xs) ∙ ap length (those_filter used xs)

-- ---- sound slots that are written

-- behind the first, up to some place, and then from the one before that place on
last_and : (s : Slot) (t fs : List Slot) → (x : Slot) × (drop (length t) (s ∷ (t ++ fs)) ≡ x ∷ fs)
last_and s [] fs = (s, refl)
last_and s (u ∷ t) fs = last_and u t fs

moves_parts : (ws fs : List Slot) → 1 ≤ length ws
    → slice_set (copy_within (ws ++ fs) 1 (length ws) 0) (length ws - 1) blank ≡ drop 1 ws ++ (blank ∷ fs)
moves_parts [] fs h = absurd (omega (arith, h))
moves_parts (s ∷ t) fs h =
    let n : length (s ∷ t) - 1 ≡ length t = omega arith in
    let none : 0 + length t ≡ length t = omega arith in
    let last = last_and s t fs in
    rw (n, none, take-append_seam t fs, last.1) (set-append_seam t last.0 fs blank)

-- the used ones moved up
pub moves : (xs : List Slot) → sound xs ≡ true → 1 ≤ waiting xs
    → slice_set (copy_within xs 1 (waiting xs) 0) (waiting xs - 1) blank ≡ moved_up xs
moves xs h w =
    ap (λ (l : List Slot). slice_set (copy_within l 1 (waiting xs) 0) (waiting xs - 1) blank) (sound_form xs h).parts
    ∙ moves_parts (waiting_in xs) (those unused xs) w

puts_parts : (new : Slot) (ws fs : List Slot) → 1 ≤ length fs → slice_set (ws ++ fs) (length ws) new ≡ ws ++ (new ∷ drop 1 fs)
puts_parts new ws [] h = absurd (omega (arith, h))
puts_parts new ws (f ∷ fs) h = set-append_seam ws f fs new

-- a command in the first free slot
pub puts : (new : Slot) (xs : List Slot) → sound xs ≡ true → waiting xs < 8
    → slice_set xs (waiting xs) new ≡ waiting_in xs ++ (new ∷ drop 1 (those unused xs))
puts new xs h w =
    let x = sound_form xs h in
    let free : 1 ≤ length (those unused xs) =
    omega (arith, w, x.form.eight, length-append (waiting_in xs) (those unused xs)) in
    ap (λ (l : List Slot). slice_set l (waiting xs) new) x.parts ∙ puts_parts new (waiting_in xs) (those unused xs) free
