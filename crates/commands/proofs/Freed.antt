-- A FREED SLOT, LEFT ALL ZERO, IS USED AGAIN: from empty slots on every slot that holds none is all zero, and a good
-- one of the 14 is taken while fewer than eight wait. Assumes nothing.
use Prim.Native.Nat.{ℕ, zero, suc, ◌<◌}
use native.Mathlib.Omega.{arith}
use mathlib.Core.Path.{◌≡◌, refl}
use mathlib.Core.Bool.{Bool, true, false, cond}
use mathlib.Core.List.{List, [], ◌∷◌}
use lib.Dec.{eqb}
use lib.ListN.{replicate}
use borrow.Author.Tests.{ne_eqb}
use Rattle.standard.specs.Words.{byte, first_of}
use Rattle.standard.specs.Messages.{number_of, check_of}
use Rattle.commands.specs.declared.Slot.{Slot}
use Rattle.commands.specs.Commands.{one_of_them, blank, used, unused, those, waiting, sound, After, goes_out}
use Rattle.commands.specs.Commands.{placed, take_tests}
use Rattle.commands.specs.Runs.{Call, take, called, empty, slots_after, Blank}
use Rattle.commands.proofs.Form.{form_free}
use Rattle.commands.proofs.Refusing.{take_last, take_runs}
use Rattle.commands.proofs.Step.{called_done}
use Rattle.commands.proofs.Kept.{kept, empty_sound}

call_frees : (c : Call) (xs : List Slot) → sound xs ≡ true → Blank (those unused xs)
    → Blank (those unused (called c xs).slots)
call_frees c xs h b =
    let x = called_done c xs h in
    rw (x.slots, form_free x.next x.free x.form) (x.blanks b)

-- free slots that are all zero stay so, and the freed ones become so
pub run_frees : (cs : List Call) (xs : List Slot) → sound xs ≡ true → Blank (those unused xs)
    → Blank (those unused (slots_after cs xs))
unfolding slots_after
run_frees [] xs h b = b
run_frees (c ∷ cs) xs h b = run_frees cs (called c xs).slots (kept c xs h) (call_frees c xs h b)

blanks : (n : ℕ) → Blank (replicate n blank)
blanks zero = tt
blanks (suc n) = (refl, blanks n)

-- a freed slot has 16 bytes, all zero
pub all_zero : blank.length ∷ blank.sent ∷ blank.ticks ∷ blank.message ≡ replicate 16 0
all_zero = refl

-- FREE SLOTS ARE ALL ZERO, from empty slots on
pub freed : (cs : List Call) → Blank (those unused (slots_after cs empty))
unfolding those
freed cs = run_frees cs empty empty_sound (blanks 8)

either : (t : Bool) (p q : After) → p.answer.number ≡ 0 → q.answer.number ≡ 0 → (cond t p q).answer.number ≡ 0
either true p q a b = a
either false p q a b = b

-- no call is refused whose command goes out
goes_unrefused : (e : ℕ) (xs : List Slot) → (goes_out e xs).answer.number ≡ 0
unfolding goes_out
goes_unrefused e [] = refl
goes_unrefused e (s ∷ t) = either (used s) _ _ refl refl

-- THEY ARE USED AGAIN: a good one of the 14 is taken unless all eight wait
pub room : (m : List ℕ) (xs : List Slot) → sound xs ≡ true → check_of m ≡ 0 → one_of_them (number_of (byte 1 m)) ≡ true
    → waiting xs < 8 → (called (take m) xs).answer.number ≡ 0
unfolding called
room m xs h good one few =
    let last : first_of (take_tests m xs) ≡ 0 =
    rw (take_last m xs h good one, ne_eqb (waiting xs) 8 (λ e. omega (arith, few, e))) in
    rw (take_runs m xs last) (either (eqb (waiting xs) 0) _ _ (goes_unrefused 0 (placed m xs)) refl)
