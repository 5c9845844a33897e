-- Laws of keeping: what a log holds after `keep`, and that A LOG CHANGED BY `keep` ALONE IS SOUND. Assumes nothing.
use Prim.Native.Nat.{ℕ, ◌+◌, ◌≤◌}
use native.Mathlib.Nat.{add-zero}
use native.Mathlib.Omega.{arith}
use mathlib.Core.Path.{◌≡◌, refl, sym, ap, ap₂, subst, ◌∙◌}
use mathlib.Core.Bool.{Bool, true, false, cond}
use mathlib.Core.Option.{some}
use mathlib.Core.List.{List, [], ◌∷◌, ◌++◌}
use lib.Dec.{eqb}
use lib.ListN.{length, take, drop, length-append, length-drop}
use lib.Seq.{take_at, length-take-le}
use borrow.Author.Tests.{ne_eqb, eqb-true, eqb-false}
use Rattle.standard.specs.Words.{laid}
use Rattle.standard.specs.Messages.{check_of, is_status}
use Rattle.station_log.specs.Log.{record_of, joined, all_kept, records_of}
use Rattle.station_log.specs.Log.{log_refusal, keep_refusal, added_of, after_keep}
use Rattle.station_log.specs.Log.{beyond}
use Rattle.station_log.specs.Runs.{Station, log_in, empty, keeping, keeping_all}
use Rattle.station_log.proofs.Walking.{records_joined, joined_records}
use Rattle.station_log.proofs.Backwards.{sound_records, records_sound, sound_empty}
use Rattle.station_log.proofs.Refusing.{Inside, inside_not, Asked, asked_none, taken, of_the_kept}
use Rattle.station_log.proofs.Refusing.{own_numbers, keep_own, keep_18, keep_else}

-- ---- one call

-- what is laid at the end of the used bytes follows them
laid_used : (log : List ℕ) (used : ℕ) (part : List ℕ) → used + length part ≤ length log
    → take (used + length part) (laid log used part) ≡ take used log ++ part
laid_used log used part h =
    take_at (take used log ++ part) (drop (used + length part) log) (used + length part)
    (length-append (take used log) part ∙ ap (λ (n : ℕ). n + length part) (length-take-le used log (omega arith)))

laid_length : (log : List ℕ) (used : ℕ) (part : List ℕ) → used + length part ≤ length log
    → length (laid log used part) ≡ length log
laid_length log used part h =
    length-append (take used log ++ part) (drop (used + length part) log)
    ∙ ap₂ (λ (a b : ℕ). a + b)
    (length-append (take used log) part ∙ ap (λ (n : ℕ). n + length part) (length-take-le used log (omega arith)))
    (length-drop (used + length part) log)
    ∙ (omega arith)

-- a call that is refused changes nothing
pub refused_stays : (s : Station) (m : List ℕ) → (keep_refusal s.buffer s.used m ≡ 0 → ⊥) → keeping s m ≡ s
unfolding keeping added_of after_keep
refused_stays s m h =
    rw (ne_eqb (keep_refusal s.buffer s.used m) 0 h)
    (ap (λ (n : ℕ). record { buffer = s.buffer; used = n }) (add-zero s.used))

-- one that is not puts the record behind the others
pub kept_adds : (s : Station) (m : List ℕ) → keep_refusal s.buffer s.used m ≡ 0
    → keeping s m
    ≡ record { buffer = laid s.buffer s.used (record_of m); used = s.used + length (record_of m) }
unfolding keeping added_of after_keep
kept_adds s m h = rw h refl

-- the buffer is as long as it was
pub keeping_length : (s : Station) (m : List ℕ) → length (keeping s m).buffer ≡ length s.buffer
keeping_length s m = go (eqb (keep_refusal s.buffer s.used m) 0) refl
  where
    go : (t : Bool) → eqb (keep_refusal s.buffer s.used m) 0 ≡ t
        → length (keeping s m).buffer ≡ length s.buffer
    go true e =
        let z = eqb-true (keep_refusal s.buffer s.used m) 0 e in
        ap (λ (t : Station). length t.buffer) (kept_adds s m z)
        ∙ laid_length s.buffer s.used (record_of m) (taken s.buffer s.used m z).room.buffer
    go false e =
        ap (λ (t : Station). length t.buffer)
        (refused_stays s m (eqb-false (keep_refusal s.buffer s.used m) 0 e))

pub kept_log : (s : Station) (m : List ℕ) → keep_refusal s.buffer s.used m ≡ 0
    → log_in (keeping s m) ≡ log_in s ++ record_of m
kept_log s m h =
    let t = taken s.buffer s.used m h in
    ap log_in (kept_adds s m h) ∙ laid_used s.buffer s.used (record_of m) t.room.buffer

-- the log then holds that message, and those it held
pub kept_records : (s : Station) (m : List ℕ) (ms : List (List ℕ)) → keep_refusal s.buffer s.used m ≡ 0
    → records_of (log_in s) ≡ some ms → records_of (log_in (keeping s m)) ≡ some (m ∷ ms)
unfolding joined all_kept
kept_records s m ms h e =
    let b = records_joined (log_in s) ms e in
    joined_records (log_in (keeping s m)) (m ∷ ms)
    (record {
      bytes = kept_log s m h ∙ ap (λ (l : List ℕ). l ++ record_of m) b.bytes;
      kept = rw ((taken s.buffer s.used m h).kept, b.kept) refl;
    })

-- ---- A LOG THAT BEGAN EMPTY AND WAS CHANGED BY `keep` ALONE

kept_asked : (s : Station) (m : List ℕ) → keep_refusal s.buffer s.used m ≡ 0 → Asked s.buffer s.used
    → Asked (keeping s m).buffer (keeping s m).used
kept_asked s m h a =
    let room = (taken s.buffer s.used m h).room in
    let all = sound_records (log_in s) a.sounds in
    let fits : Inside (laid s.buffer s.used (record_of m)) (s.used + length (record_of m)) = record {
      buffer = subst (λ (n : ℕ). s.used + length (record_of m) ≤ n)
          (sym (laid_length s.buffer s.used (record_of m) room.buffer)) room.buffer;
      most = room.most;
    } in
    record {
      fits = subst (λ (t : Station). Inside t.buffer t.used) (sym (kept_adds s m h)) fits;
      sounds = records_sound (log_in (keeping s m)) (m ∷ all.0) (kept_records s m all.0 h all.1);
    }

pub keeping_asked : (s : Station) (m : List ℕ) → Asked s.buffer s.used
    → Asked (keeping s m).buffer (keeping s m).used
keeping_asked s m a = go (eqb (keep_refusal s.buffer s.used m) 0) refl
  where
    go : (t : Bool) → eqb (keep_refusal s.buffer s.used m) 0 ≡ t
        → Asked (keeping s m).buffer (keeping s m).used
    go true e = kept_asked s m (eqb-true _ 0 e) a
    go false e = subst (λ (t : Station). Asked t.buffer t.used) (sym (refused_stays s m (eqb-false _ 0 e))) a

pub all_asked : (s : Station) (ms : List (List ℕ)) → Asked s.buffer s.used
    → Asked (keeping_all s ms).buffer (keeping_all s ms).used
unfolding keeping_all
all_asked s [] a = a
all_asked s (m ∷ ms) a = all_asked (keeping s m) ms (keeping_asked s m a)

pub empty_asked : (buffer : List ℕ) → Asked buffer 0
empty_asked buffer = record { fits = record { buffer = omega arith; most = omega arith }; sounds = sound_empty }

-- IT IS SOUND, and its used bytes are within the buffer and 65,536: neither call refuses it
pub never_refused : (buffer : List ℕ) (ms : List (List ℕ))
    → let s = keeping_all (empty buffer) ms in log_refusal s.buffer s.used ≡ 0
never_refused buffer ms =
    let s = keeping_all (empty buffer) ms in
    asked_none s.buffer s.used (all_asked (empty buffer) ms (empty_asked buffer))

-- IT NEVER ANSWERS 17, nor 16: of a log that is not refused `keep` answers 0, the message's own, 18 or 9
pub keep_numbers : (log : List ℕ) (used : ℕ) (m : List ℕ) → Asked log used → of_the_kept (keep_refusal log used m) ≡ true
keep_numbers log used m a = go (eqb (check_of m) 0) refl (is_status m) refl (beyond log (used + length (record_of m))) refl
  where
    p : beyond log used ≡ false
    p = inside_not log used a.fits

    Is : ℕ → Type 0
    Is n = of_the_kept n ≡ true

    go : (b : Bool) → eqb (check_of m) 0 ≡ b → (c : Bool) → is_status m ≡ c
        → (d : Bool) → beyond log (used + length (record_of m)) ≡ d → Is (keep_refusal log used m)
    go false r c s d t =
        subst Is (sym (keep_own log used m p a.sounds (eqb-false (check_of m) 0 r))) (own_numbers m)
    go true r false s d t = subst Is (sym (keep_18 log used m p a.sounds (eqb-true (check_of m) 0 r) s)) refl
    go true r true s d t =
        let e = keep_else log used m p a.sounds (eqb-true (check_of m) 0 r) s in
        subst Is (sym (e ∙ ap (λ u. cond u 9 0) t)) (last d)
      where
        last : (d : Bool) → Is (cond d 9 0)
        last true = refl
        last false = refl
