-- SOUNDNESS IS KEPT by every call, and so a line that began empty never answers 22. Assumes nothing.
use native.Mathlib.Omega.{arith}
use mathlib.Core.Path.{◌≡◌, refl}
use mathlib.Core.Bool.{true}
use mathlib.Core.List.{List, [], ◌∷◌}
use Rattle.commands.specs.declared.Slot.{Slot}
use Rattle.commands.specs.Commands.{every, those, used_first, sound, Answer}
use Rattle.commands.specs.Runs.{Call, called, empty, answers, slots_after, Each}
use Rattle.commands.proofs.Form.{form_sound}
use Rattle.commands.proofs.Step.{Step, stays, counts, repeats, empties, moves, begins, joins, called_done, step}

-- by every call
pub kept : (c : Call) (xs : List Slot) → sound xs ≡ true → sound (called c xs).slots ≡ true
kept c xs h =
    let x = called_done c xs h in
    rw x.slots (form_sound x.next x.free x.form)

-- by every run
pub run_kept : (cs : List Call) (xs : List Slot) → sound xs ≡ true → sound (slots_after cs xs) ≡ true
unfolding slots_after
run_kept [] xs h = h
run_kept (c ∷ cs) xs h = run_kept cs (called c xs).slots (kept c xs h)

-- empty slots are sound
pub empty_sound : sound empty ≡ true
unfolding sound used_first every those
empty_sound = refl

step_number : {c : Call} {ws next : List Slot} {a : Answer} → Step c ws a next → a.number ≡ 22 → ⊥
step_number (stays n other none idle) h = other h
step_number (counts early) h = omega arith
step_number (repeats none few) h = omega arith
step_number (empties none way) h = omega arith
step_number (moves none way) h = omega arith
step_number begins h = omega arith
step_number joins h = omega arith

-- SOUND SLOTS NEVER ANSWER 22, however they are called
pub sound_never_22 : (cs : List Call) (xs : List Slot) → sound xs ≡ true
    → Each (λ (a : Answer). a.number ≡ 22 → ⊥) (answers cs xs)
unfolding answers
sound_never_22 [] xs h = tt
sound_never_22 (c ∷ cs) xs h = (step_number (step c xs h), sound_never_22 cs (called c xs).slots (kept c xs h))

-- so a line that began empty does not
pub never_22 : (cs : List Call) → Each (λ (a : Answer). a.number ≡ 22 → ⊥) (answers cs empty)
never_22 cs = sound_never_22 cs empty empty_sound
