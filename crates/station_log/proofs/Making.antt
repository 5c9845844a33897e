-- Laws of making room, call by call: what a log holds after `make_room`, what it tells, and what `keep` answers then.
-- Assumes nothing.
use Prim.Native.Nat.{ℕ, ◌+◌, ◌-◌, ◌≤◌, ◌<◌}
use native.Mathlib.Nat.{zero-add, le_refl, le_trans}
use native.Mathlib.Omega.{arith}
use mathlib.Core.Path.{◌≡◌, refl, sym, ap, ap₂, subst, ◌∙◌}
use mathlib.Core.Bool.{Bool, true, false, cond, ◌||◌}
use mathlib.Core.Option
use mathlib.Core.Option.{Option, some}
use mathlib.Core.List.{List, [], ◌∷◌, ◌++◌}
use lib.Dec.{eqb, ltb}
use lib.ListN.{length, get_or, drop, take-append-drop}
use lib.Seq.{take-append_seam, length-take-le, length_front, get_or-append-add, get_or-drop}
use borrow.Author.Tests.{ne_eqb, eqb-true, eqb-false}
use Rattle.standard.specs.Messages.{is_status}
use Rattle.standard.specs.Table.{applied_to, table_after}
use Rattle.station_log.specs.Log.{log_most, record_of, joined, all_kept, records_of, from_newest, first_record, newest_of}
use Rattle.station_log.specs.Log.{beyond, log_refusal, keep_refusal}
use Rattle.station_log.specs.Room.{kept_of, smaller, won_of, after_room}
use Rattle.station_log.specs.Runs.{Call, keeps, makes, calling, calling_all}
use Rattle.station_log.specs.Runs.{Station, log_in, empty, keeping, making, keeping_on, oldest_first, told_by}
use Rattle.station_log.proofs.Walking.{records_joined, joined_records}
use Rattle.station_log.proofs.Backwards.{sound_records, records_sound}
use Rattle.station_log.proofs.Refusing.{Inside, inside_not, Asked, asked, asked_none, keep_status, past}
use Rattle.station_log.proofs.Keeping.{keeping_asked, empty_asked}
use Rattle.station_log.proofs.Rebuilt.{told_keeping}
use Rattle.station_log.proofs.Which.{kept_status, kept_shorter, kept_twice, kept_table, kept_newest}

-- ---- refused, or not

-- a call that is refused changes nothing
pub refused_same : (s : Station) → (log_refusal s.buffer s.used ≡ 0 → ⊥) → making s ≡ s
unfolding making won_of after_room
refused_same s h =
    rw (ne_eqb (log_refusal s.buffer s.used) 0 h)
    (ap (λ (n : ℕ). record { buffer = s.buffer; used = n }) (omega arith))

-- so what a refused station has, and one that is not refused has afterwards, every station has afterwards
made_has : (P : Station → Type 0) (s : Station) → ((log_refusal s.buffer s.used ≡ 0 → ⊥) → P s)
    → (Asked s.buffer s.used → P (making s)) → P (making s)
made_has P s p q = go (eqb (log_refusal s.buffer s.used) 0) refl
  where
    go : (t : Bool) → eqb (log_refusal s.buffer s.used) 0 ≡ t → P (making s)
    go true e = q (asked s.buffer s.used (eqb-true _ 0 e))
    go false e = let r = eqb-false (log_refusal s.buffer s.used) 0 e in subst P (sym (refused_same s r)) (p r)

-- ---- one that is not refused

-- a log made smaller, by the list of its records
smaller_is : (log : List ℕ) (ms : List (List ℕ)) → records_of log ≡ some ms → smaller log ≡ joined (kept_of [] ms)
unfolding smaller
smaller_is log ms e = ap (λ (w : Option (List (List ℕ))). joined (kept_of [] (Option.get_or w []))) e

-- the station that uses it, where it is laid over the first bytes of a buffer
abbrev first : List ℕ → List ℕ → Station
first log buffer = record { buffer = log ++ drop (length log) buffer; used = length log }

module _ (s : Station) (a : Asked s.buffer s.used) where
  all : (ms : List (List ℕ)) × (records_of (log_in s) ≡ some ms)
  all = sound_records (log_in s) a.sounds

  -- it is no longer
  shorter : length (smaller (log_in s)) ≤ s.used
  shorter =
      rw (smaller_is (log_in s) all.0 all.1)
      (subst (λ (n : ℕ). length (joined (kept_of [] all.0)) ≤ n)
      (sym (ap length (records_joined (log_in s) all.0 all.1).bytes)
      ∙ length-take-le s.used s.buffer a.fits.buffer)
      (kept_shorter [] all.0))

  -- it is laid over the first bytes
  made_is : making s ≡ first (smaller (log_in s)) s.buffer
  unfolding making won_of after_room
  made_is =
      let n = length (smaller (log_in s)) in
      let l = shorter in
      let left : s.used - (s.used - n) ≡ n = omega arith in
      rw (asked_none s.buffer s.used a)
      (ap₂ (λ (i j : ℕ). record { buffer = smaller (log_in s) ++ drop i s.buffer; used = j }) (zero-add n) left)

  -- THE LOG IS THEN THE SMALLER ONE
  pub made_log : log_in (making s) ≡ smaller (log_in s)
  made_log =
      ap log_in made_is
      ∙ take-append_seam (smaller (log_in s)) (drop (length (smaller (log_in s))) s.buffer)

  -- it holds the records that stay
  pub made_records : (ms : List (List ℕ)) → records_of (log_in s) ≡ some ms
      → records_of (log_in (making s)) ≡ some (kept_of [] ms)
  made_records ms e =
      joined_records (log_in (making s)) (kept_of [] ms)
      (record {
        bytes = made_log ∙ smaller_is (log_in s) ms e;
        kept = kept_status [] ms (records_joined (log_in s) ms e).kept;
      })

  -- and so many bytes are used
  pub made_used : (ms : List (List ℕ)) → records_of (log_in s) ≡ some ms
      → (making s).used ≡ length (joined (kept_of [] ms))
  made_used ms e = ap (λ (u : Station). u.used) made_is ∙ ap length (smaller_is (log_in s) ms e)

  -- which none can be dropped of
  least : smaller (log_in (making s)) ≡ log_in (making s)
  least =
      smaller_is (log_in (making s)) (kept_of [] all.0) (made_records all.0 all.1)
      ∙ ap joined (kept_twice all.0)
      ∙ sym (made_log ∙ smaller_is (log_in s) all.0 all.1)

-- ---- every station

-- no more is used than before
pub never_more : (s : Station) → (making s).used ≤ s.used
never_more s =
    made_has (λ u. u.used ≤ s.used) s (λ r. le_refl s.used)
    (λ a. rw (made_is s a) (shorter s a))

-- and no more is won than was used: what is taken from the used length is in it
pub won_less : (s : Station) → (won_of s.buffer s.used).length ≤ s.used
unfolding won_of
won_less s = go (eqb (log_refusal s.buffer s.used) 0)
  where
    go : (t : Bool) → cond t (s.used - length (smaller (log_in s))) 0 ≤ s.used
    go true = omega arith
    go false = omega arith

-- the buffer's length stays
pub made_length : (s : Station) → length (making s).buffer ≡ length s.buffer
made_length s =
    made_has (λ u. length u.buffer ≡ length s.buffer) s (λ r. refl)
    (λ a.
    ap (λ (u : Station). length u.buffer) (made_is s a)
    ∙ length_front s.buffer (smaller (log_in s)) (length (smaller (log_in s)))
    (sym (length-take-le (length (smaller (log_in s))) s.buffer (le_trans (shorter s a) a.fits.buffer))))

-- "BYTES BEYOND THE NEW USED LENGTH STAY"
pub made_beyond : (s : Station) (i : ℕ) → (making s).used ≤ i → get_or (making s).buffer i 0 ≡ get_or s.buffer i 0
made_beyond s i =
    made_has (λ u. u.used ≤ i → get_or u.buffer i 0 ≡ get_or s.buffer i 0) s (λ r l. refl)
    (λ a. rw (made_is s a) (behind (smaller (log_in s))))
  where
    behind : (log : List ℕ) → length log ≤ i → get_or (log ++ drop (length log) s.buffer) i 0 ≡ get_or s.buffer i 0
    behind log l =
        let k = i - length log in
        let e : i ≡ length log + k = omega arith in
        ap (λ (n : ℕ). get_or (log ++ drop (length log) s.buffer) n 0) e
        ∙ get_or-append-add log (drop (length log) s.buffer) k 0
        ∙ get_or-drop (length log) s.buffer k 0
        ∙ ap (λ (n : ℕ). get_or s.buffer n 0) (sym e)

-- a log that is not refused is not refused afterwards
pub made_asked : (s : Station) → Asked s.buffer s.used → Asked (making s).buffer (making s).used
made_asked s a =
    let all = sound_records (log_in s) a.sounds in
    let less = never_more s in
    record {
      fits = record {
        buffer = rw (made_length s) (le_trans less a.fits.buffer);
        most = le_trans less a.fits.most;
      };
      sounds = records_sound (log_in (making s)) (kept_of [] all.0) (made_records s a all.0 all.1);
    }

-- A SECOND CALL CHANGES NOTHING
pub made_twice : (s : Station) → making (making s) ≡ making s
made_twice s = made_has (λ u. making u ≡ u) s (refused_same s) (λ a. go (making s) (made_asked s a) (least s a))
  where
    go : (u : Station) → Asked u.buffer u.used → smaller (log_in u) ≡ log_in u → making u ≡ u
    go u b e =
        made_is u b
        ∙ ap (λ (l : List ℕ). first l u.buffer) e
        ∙ ap (λ (n : ℕ). record { buffer = log_in u ++ drop n u.buffer; used = n })
        (length-take-le u.used u.buffer b.fits.buffer)
        ∙ ap (λ (l : List ℕ). record { buffer = l; used = u.used }) (take-append-drop u.used u.buffer)

-- it wins nothing
pub wins_nothing : (s : Station) → (won_of (making s).buffer (making s).used).length ≡ 0
unfolding won_of
wins_nothing s =
    made_has (λ u. (won_of u.buffer u.used).length ≡ 0) s
    (λ r. rw (ne_eqb (log_refusal s.buffer s.used) 0 r) refl)
    (λ a. go (making s) (made_asked s a) (least s a))
  where
    go : (u : Station) → Asked u.buffer u.used → smaller (log_in u) ≡ log_in u
        → (won_of u.buffer u.used).length ≡ 0
    go u b e =
        let n = length-take-le u.used u.buffer b.fits.buffer in
        rw (asked_none u.buffer u.used b, e) (omega arith)

-- ---- what a log tells

-- what is told by the records that stay and by all, is told by the log before and afterwards
made_tells : {A : Type 0} (tells : List (List ℕ) → A)
    → ((ms : List (List ℕ)) → all_kept ms ≡ true → tells (kept_of [] ms) ≡ tells ms) → (s : Station)
    → tells (Option.get_or (records_of (log_in (making s))) []) ≡ tells (Option.get_or (records_of (log_in s)) [])
made_tells {A} tells h s =
    made_has (λ u. by (records_of (log_in u)) ≡ by (records_of (log_in s))) s (λ r. refl)
    (λ a.
    let all = sound_records (log_in s) a.sounds in
    ap by (made_records s a all.0 all.1)
    ∙ h all.0 (records_joined (log_in s) all.0 all.1).kept
    ∙ sym (ap by all.1))
  where
    by : Option (List (List ℕ)) → A
    by w = tells (Option.get_or w [])

-- IT TELLS A TABLE WHAT IT TOLD IT BEFORE, from whatever table on
pub made_table : (t : List ℕ) (s : Station)
    → table_after t (told_by (log_in (making s))) ≡ table_after t (told_by (log_in s))
made_table t = made_tells (λ ms. table_after t (oldest_first ms)) (kept_table t)

-- THE NEWEST RECORD ABOUT A ZONE IS WHAT IT WAS
pub made_newest : (s : Station) (zone : ℕ) → zone < 256 → newest_of (log_in (making s)) zone ≡ newest_of (log_in s) zone
made_newest s zone h =
    made_tells (λ ms. first_record (from_newest zone ms)) (λ ms k. kept_newest zone ms h) s

-- ---- `keep` afterwards

-- of a message of a log it goes by the room alone
pub keep_after : (s : Station) (m : List ℕ) → Asked s.buffer s.used → is_status m ≡ true
    → keep_refusal (making s).buffer (making s).used m
    ≡ cond (beyond s.buffer ((making s).used + length (record_of m))) 9 0
keep_after s m a h =
    let n = (making s).used + length (record_of m) in
    keep_status (making s).buffer (making s).used m (made_asked s a) h
    ∙ ap (λ (k : ℕ). cond (ltb k n || ltb log_most n) 9 0) (made_length s)

-- WHAT WAS REFUSED FOR WANT OF ROOM IS TAKEN WHERE ROOM FOR IT WAS WON
pub made_room : (s : Station) (m : List ℕ) → keep_refusal s.buffer s.used m ≡ 9
    → Inside s.buffer ((making s).used + length (record_of m)) → keep_refusal (making s).buffer (making s).used m ≡ 0
made_room s m h room =
    let p = past s.buffer s.used m (rw h refl) in
    keep_after s m p.log_asked p.kept ∙ rw (inside_not s.buffer _ room) refl

-- ---- A LOG THAT BEGAN EMPTY AND WAS CHANGED BY THE TWO CALLS ALONE, in whatever order

calling_asked : (s : Station) (c : Call) → Asked s.buffer s.used
    → Asked (calling s c).buffer (calling s c).used
unfolding calling
calling_asked s (keeps m) a = keeping_asked s m a
calling_asked s makes a = made_asked s a

pub calls_asked : (s : Station) (cs : List Call) → Asked s.buffer s.used
    → Asked (calling_all s cs).buffer (calling_all s cs).used
unfolding calling_all
calls_asked s [] a = a
calls_asked s (c ∷ cs) a = calls_asked (calling s c) cs (calling_asked s c a)

-- IS NEVER REFUSED
pub calls_never_refused : (buffer : List ℕ) (cs : List Call)
    → let s = calling_all (empty buffer) cs in log_refusal s.buffer s.used ≡ 0
calls_never_refused buffer cs =
    let s = calling_all (empty buffer) cs in
    asked_none s.buffer s.used (calls_asked (empty buffer) cs (empty_asked buffer))

-- ---- A UNIT THAT MAKES ROOM WHERE `keep` SAYS 9

-- it tells a table what it told before and then the message, as long as room can be won for it
pub on_told : (t : List ℕ) (s : Station) (m : List ℕ) → Asked s.buffer s.used
    → (is_status m ≡ true → Inside s.buffer ((making s).used + length (record_of m)))
    → table_after t (told_by (log_in (keeping_on s m))) ≡ applied_to (table_after t (told_by (log_in s))) m
unfolding keeping_on
on_told t s m a room = go (eqb (keep_refusal s.buffer s.used m) 9) refl
  where
    go : (b : Bool) → eqb (keep_refusal s.buffer s.used m) 9 ≡ b
        → table_after t (told_by (log_in (cond b (keeping (making s) m) (keeping s m))))
        ≡ applied_to (table_after t (told_by (log_in s))) m
    go true e =
        let h = eqb-true (keep_refusal s.buffer s.used m) 9 e in
        let none = made_room s m h (room (past s.buffer s.used m (rw h refl)).kept) in
        told_keeping t (making s) m (made_asked s a) (λ z. let y = sym none ∙ z in omega arith)
        ∙ ap (λ (u : List ℕ). applied_to u m) (made_table t s)
    go false e = told_keeping t s m a (eqb-false (keep_refusal s.buffer s.used m) 9 e)
