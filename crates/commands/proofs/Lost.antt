-- NOTHING IS LOST, AND ALL IN ORDER: what waits after a run is what waited and what was taken, less as many of the
-- first as have ended. So from empty slots on the commands taken are those ended in each way and those that wait.
-- Assumes nothing.
use Prim.Native.Nat.{ℕ, ◌+◌}
use native.Mathlib.Omega.{arith}
use mathlib.Core.Path.{◌≡◌, refl, sym, ap, ◌∙◌}
use mathlib.Core.Bool.{true, false, cond, not}
use mathlib.Core.List.{List, [], ◌∷◌, ◌++◌, map, append-nil, append_assoc, cons≢nil}
use lib.Dec.{eqb}
use lib.ListN.{length, drop, length-append, length-drop, length-map}
use lib.Seq.{drop-append-le, drop-drop}
use borrow.Author.Tests.{eqb-true, not-true}
use Rattle.standard.specs.Messages.{among}
use Rattle.standard.proofs.Words.{map_append}
use Rattle.commands.specs.declared.Slot.{Slot}
use Rattle.commands.specs.Commands.{flagged, those, waiting, waiting_in, sound, Answer, quiet, slot_of}
use Rattle.commands.specs.Runs.{Call, take, called, empty, answers, slots_after, taken_by, taken_in, ended_in, ends_in}
use Rattle.commands.specs.Runs.{line, ends_by, Less}
use Rattle.commands.proofs.Flag.{flagged_twice, slot_message, among_passes}
use Rattle.commands.proofs.Step.{Step, stays, counts, repeats, empties, moves, begins, joins, ways, going_out}
use Rattle.commands.proofs.Step.{step}
use Rattle.commands.proofs.Kept.{kept, empty_sound}

-- ---- one call

-- each way is an end
pub way_ends : (e : ℕ) → among e ways ≡ true → eqb e 0 ≡ false
way_ends e h = not-true (eqb e 0) (among_passes (λ k. not (eqb k 0)) ways e refl h)

-- a command that has just been taken goes out as it was counted
slot_goes : (m : List ℕ) → going_out (slot_of m) ≡ flagged m
slot_goes m = ap flagged (slot_message m) ∙ flagged_twice m

less_none : (l : List (List ℕ)) → Less 0 (l ++ []) l
less_none l = record { rest = sym (append-nil l); enough = omega arith }

step_line : {c : Call} {ws next : List Slot} {a : Answer} → Step c ws a next
    → Less (ends_by a) (map going_out ws ++ taken_by c a) (map going_out next)
unfolding taken_by
step_line (stays {ws = ws} n other none idle) = rw none (less_none (map going_out ws))
step_line (counts {s} {t} early) = less_none (map going_out (s ∷ t))
step_line (repeats {s = s} {t} none few) = rw none (less_none (map going_out (s ∷ t)))
step_line (empties {e = e} none way) = rw (way_ends e way, none) (record { rest = refl; enough = omega arith })
step_line (moves {e = e} none way) =
    rw (way_ends e way, none) (record { rest = sym (append-nil _); enough = omega arith })
step_line (begins {m}) = record { rest = ap (λ l. l ∷ []) (slot_goes m); enough = omega arith }
step_line (joins {m} {s} {t}) = record {
  rest =
      ap (λ l. going_out s ∷ l)
      (map_append going_out t (slot_of m ∷ []) ∙ ap (λ g. map going_out t ++ (g ∷ [])) (slot_goes m));
  enough = omega arith;
}

-- a call that takes a command puts it last
step_takes : {m : List ℕ} {ws next : List Slot} {a : Answer} → Step (take m) ws a next → a.number ≡ 0
    → map going_out next ≡ map going_out ws ++ (flagged m ∷ [])
unfolding taken_by
step_takes (stays n other none idle) h = absurd (cons≢nil (rw h at none))
step_takes (repeats none few) h = absurd (cons≢nil (none quiet))
step_takes (empties none way) h = absurd (cons≢nil (none quiet))
step_takes (moves none way) h = absurd (cons≢nil (none quiet))
step_takes (begins {m}) h = (step_line (begins {m = m})).rest
step_takes (joins {m} {s} {t}) h = (step_line (joins {m = m} {s = s} {t = t})).rest

-- A COMMAND THAT IS TAKEN stands last
pub take_last : (m : List ℕ) (xs : List Slot) → sound xs ≡ true → (called (take m) xs).answer.number ≡ 0
    → line (called (take m) xs).slots ≡ line xs ++ (flagged m ∷ [])
take_last m xs h number = step_takes (step (take m) xs h) number

-- ---- a run

-- less n of the first, and then less k of what is left and what came
less_then : {n k : ℕ} {all left last : List (List ℕ)} (more : List (List ℕ)) → Less n all left
    → Less k (left ++ more) last → Less (n + k) (all ++ more) last
less_then {n} {k} {all} {left} more p q = record {
  rest =
      q.rest
      ∙ ap (λ l. drop k (l ++ more)) p.rest
      ∙ ap (drop k) (sym (drop-append-le n all more p.enough))
      ∙ drop-drop k n (all ++ more);
  enough =
      omega (
        arith,
        p.enough,
        q.enough,
        length-append all more,
        length-append left more,
        ap length p.rest ∙ length-drop n all,
      );
}

-- WHAT WAITS AFTER A RUN is what waited before it and what was taken, in their order, less as many as have ended
pub line_after : (cs : List Call) (xs : List Slot) → sound xs ≡ true
    → Less (ends_in (answers cs xs)) (line xs ++ taken_in cs (answers cs xs)) (line (slots_after cs xs))
unfolding answers slots_after taken_in ends_in
line_after [] xs h = less_none (line xs)
line_after (c ∷ cs) xs h =
    let a = (called c xs).answer in
    let next = (called c xs).slots in
    let said = answers cs next in
    rw (← append_assoc (line xs) (taken_by c a) (taken_in cs said))
    (less_then (taken_in cs said) (step_line (step c xs h)) (line_after cs next (kept c xs h)))

-- the same from empty slots on
pub line_from_empty : (cs : List Call)
    → Less (ends_in (answers cs empty)) (taken_in cs (answers cs empty)) (line (slots_after cs empty))
unfolding those
line_from_empty cs = line_after cs empty empty_sound

-- ---- each way

abbrev one : ℕ → ℕ → ℕ
one e way = cond (eqb e way) 1 0

abbrev any_of : ℕ → ℕ
any_of e = one e 0x1D + one e 0x1C + one e 0x1F + one e 0x12 + one e 1

-- a way to end is one of the five, and once
way_once : (e : ℕ) → among e ways ≡ true → any_of e ≡ 1
way_once e h = eqb-true _ _ (among_passes (λ e. eqb (any_of e) 1) ways e refl h)

step_way : {c : Call} {ws next : List Slot} {a : Answer} → Step c ws a next → ends_by a ≡ any_of a.ended
step_way (stays n other none idle) = refl
step_way (counts early) = refl
step_way (repeats none few) = refl
step_way (empties {e = e} none way) = rw (way_ends e way) (sym (way_once e way))
step_way (moves {e = e} none way) = rw (way_ends e way) (sym (way_once e way))
step_way begins = refl
step_way joins = refl

-- EACH ENDS IN ONE OF THE FIVE WAYS: acknowledged, failed, rejected, replied, given up
pub each_way : (cs : List Call) (xs : List Slot) → sound xs ≡ true
    → let said = answers cs xs in
    ends_in said
    ≡ ended_in 0x1D said + ended_in 0x1C said + ended_in 0x1F said + ended_in 0x12 said + ended_in 1 said
unfolding answers ends_in ended_in
each_way [] xs h = refl
each_way (c ∷ cs) xs h =
    omega (arith, step_way (step c xs h), each_way cs (called c xs).slots (kept c xs h))

-- NOTHING IS LOST: from empty slots on, the commands taken are those ended in each way and those that wait
pub nothing_lost : (cs : List Call)
    → let said = answers cs empty in
    length (taken_in cs said)
    ≡ ended_in 0x1D said + ended_in 0x1C said + ended_in 0x1F said + ended_in 0x12 said + ended_in 1 said
    + waiting (slots_after cs empty)
nothing_lost cs =
    let said = answers cs empty in
    let x = line_from_empty cs in
    omega (
      arith,
      each_way cs empty empty_sound,
      x.enough,
      ap length x.rest ∙ length-drop (ends_in said) (taken_in cs said),
      length-map (waiting_in (slots_after cs empty)) going_out,
    )
