-- WHICH RECORDS STAY: every later one is counted, dropped or not, and it is no matter; what they tell a table, and the
-- newest record about a zone, are told by those that stay. Assumes nothing.
use Prim.Native.Nat.{ℕ, ◌+◌, ◌-◌, ◌≤◌, ◌<◌}
use native.Mathlib.Nat.{le_refl}
use native.Mathlib.Omega.{arith}
use mathlib.Core.Path.{◌≡◌, refl, sym, ap, ◌∙◌}
use mathlib.Core.Bool.{Bool, true, false, cond, or-false, false≢true}
use mathlib.Core.List.Sublist
use mathlib.Core.List.{List, [], ◌∷◌, flat_map, Sublist, nil-sublist}
use lib.Dec.{eqb}
use lib.ListN.{length, take, drop, length-append}
use borrow.Author.Tests.{eq-eqb, le-leb, eqb-true, eqb-false, leb-true}
use Rattle.standard.specs.Words.{byte, up_to}
use Rattle.standard.specs.Messages.{number_of, within, is_status}
use Rattle.standard.specs.Table.{table_bytes, zone_place, partition_place, system_place, is_table, stores}
use Rattle.standard.specs.Table.{stores_from, zone_writes, short_writes, partition_short, writes_of, done_all}
use Rattle.standard.specs.Table.{applied_to, table_after}
use Rattle.standard.proofs.Messages.{both_true}
use Rattle.standard.proofs.Table.{done_all_append, Every, NotStored, every_run, every_turn}
use Rattle.standard.proofs.Applied.{taken_leaves, applied_length, writes_are, zone_run}
use Rattle.standard.proofs.Stored.{taken, kept}
use Rattle.station_log.specs.Log.{record_of, joined, all_kept, about, from_newest, first_record}
use Rattle.station_log.specs.Room.{message_writes, all_writes, stored, needless, kept_of}
use Rattle.station_log.specs.Runs.{kept_alone, oldest_first}
use Rattle.station_log.proofs.Abouts.{about_zone, about_sixteen, about_other}
use Rattle.station_log.proofs.Rebuilt.{told_more}
use Rattle.station_log.proofs.Rewritten.{stored_append, Alike, alike_self, alike_more, alike_again, again_alike}
use Rattle.station_log.proofs.Rewritten.{alike_again_added, again_done, unstored, stored_run, turn_again}

-- ---- the list of those that stay

-- what holds between a list with messages dropped and the list, holds between those that stay and all
pub kept_by : (R : List (List ℕ) → List (List ℕ) → Type 0) → R [] []
    → ((m : List ℕ) (a b : List (List ℕ)) → R a b → R a (m ∷ b))
    → ((m : List ℕ) (a b : List (List ℕ)) → R a b → R (m ∷ a) (m ∷ b))
    → (later ms : List (List ℕ)) → R (kept_of later ms) ms
unfolding kept_of
kept_by R none dropped stays later [] = none
kept_by R none dropped stays later (m ∷ older) = go (needless later m) (kept_by R none dropped stays (m ∷ later) older)
  where
    ks : List (List ℕ)
    ks = kept_of (m ∷ later) older

    go : (t : Bool) → R ks older → R (cond t ks (m ∷ ks)) (m ∷ older)
    go true r = dropped m ks older r
    go false r = stays m ks older r

-- their order stays
pub kept_order : (later ms : List (List ℕ)) → Sublist (kept_of later ms) ms
kept_order = kept_by Sublist (nil-sublist []) (λ m a b s. Sublist.cons m s) (λ m a b s. Sublist.cons-cons m s)

-- they are messages of a log
pub kept_status : (later ms : List (List ℕ)) → all_kept ms ≡ true → all_kept (kept_of later ms) ≡ true
unfolding all_kept
kept_status =
    kept_by (λ a b. all_kept b ≡ true → all_kept a ≡ true) (λ h. h)
    (λ m a b r h. r (both_true (is_status m) (all_kept b) h).1)
    (λ m a b r h. let p = both_true (is_status m) (all_kept b) h in rw (p.0, r p.1) refl)

-- their log is no longer
pub kept_shorter : (later ms : List (List ℕ)) → length (joined (kept_of later ms)) ≤ length (joined ms)
unfolding joined
kept_shorter =
    kept_by (λ a b. length (joined a) ≤ length (joined b)) (le_refl 0)
    (λ m a b r. rw (length-append (joined b) (record_of m)) (omega arith))
    (λ m a b r. rw (length-append (joined a) (record_of m), length-append (joined b) (record_of m)) (omega arith))

-- ---- dropped ones among the later are counted, or not

-- what goes by the later ones alone that stay, message by message, comes to the same list
same_kept : (from : List (List ℕ) → List (List ℕ) → List (List ℕ) → List (List ℕ))
    → ((alone later : List (List ℕ)) → from alone later [] ≡ [])
    → ((alone later older : List (List ℕ)) (m : List ℕ) → needless alone m ≡ true → needless later m ≡ true
    → from alone later (m ∷ older) ≡ from alone (m ∷ later) older)
    → ((alone later older : List (List ℕ)) (m : List ℕ) → needless alone m ≡ false → needless later m ≡ false
    → from alone later (m ∷ older) ≡ m ∷ from (m ∷ alone) (m ∷ later) older)
    → (alone later ms : List (List ℕ)) → Alike (all_writes later) (all_writes alone)
    → from alone later ms ≡ kept_of later ms
unfolding kept_of needless all_writes
same_kept from none dropped stays alone later [] e = none alone later
same_kept from none dropped stays alone later (m ∷ older) e =
    go (needless later m) refl (same_kept from none dropped stays alone (m ∷ later) older)
    (same_kept from none dropped stays (m ∷ alone) (m ∷ later) older)
  where
    ks : List (List ℕ)
    ks = kept_of (m ∷ later) older

    go : (t : Bool) → needless later m ≡ t
        → (Alike (all_writes (m ∷ later)) (all_writes alone) → from alone (m ∷ later) older ≡ ks)
        → (Alike (all_writes (m ∷ later)) (all_writes (m ∷ alone)) → from (m ∷ alone) (m ∷ later) older ≡ ks)
        → from alone later (m ∷ older) ≡ cond t ks (m ∷ ks)
    go true h less more =
        dropped alone later older m (sym (alike_again e (message_writes m)) ∙ h) h
        ∙ less (alike_again_added (message_writes m) h e)
    go false h less more =
        stays alone later older m (sym (alike_again e (message_writes m)) ∙ h) h
        ∙ ap (λ l. m ∷ l) (more (alike_more (message_writes m) e))

-- IT MAKES NO DIFFERENCE
pub alone_same : (ms : List (List ℕ)) → kept_alone [] ms ≡ kept_of [] ms
unfolding kept_alone
alone_same ms =
    same_kept (λ alone later ms. kept_alone alone ms) (λ alone later. refl)
    (λ alone later older m p q. rw p refl)
    (λ alone later older m p q. rw p refl)
    [] [] ms (alike_self (all_writes []))

-- ONCE IS ENOUGH: of those that stay, all stay
pub kept_twice : (ms : List (List ℕ)) → kept_of [] (kept_of [] ms) ≡ kept_of [] ms
unfolding kept_of
kept_twice ms =
    same_kept (λ alone later ms. kept_of alone (kept_of later ms)) (λ alone later. refl)
    (λ alone later older m p q. rw q refl)
    (λ alone later older m p q. rw (q, p) refl)
    [] [] ms (alike_self (all_writes []))

-- ---- THEY TELL A TABLE WHAT ALL TELL IT

-- a table that has not the length of one stays
told_wrong : (t : List ℕ) (ms : List (List ℕ)) → is_table t ≡ false → table_after t (oldest_first ms) ≡ t
unfolding oldest_first table_after
told_wrong t [] h = refl
told_wrong t (m ∷ ms) h =
    told_more t m ms ∙ ap (λ (u : List ℕ). applied_to u m) (told_wrong t ms h) ∙ kept t m (rw h refl)

told_length : (t : List ℕ) (ms : List (List ℕ)) → length (table_after t (oldest_first ms)) ≡ length t
unfolding oldest_first table_after
told_length t [] = refl
told_length t (m ∷ ms) =
    ap length (told_more t m ms) ∙ applied_length (table_after t (oldest_first ms)) m ∙ told_length t ms

-- one that has it: what a message writes is done, and then the later writes
module _ (t : List ℕ) (w : length t ≡ table_bytes) where
  abbrev told : List (List ℕ) → List ℕ
  told ms = table_after t (oldest_first ms)

  told_done : (later ms : List (List ℕ)) (m : List ℕ) → is_status m ≡ true
      → done_all (all_writes later) (told (m ∷ ms)) ≡ done_all (all_writes (m ∷ later)) (told ms)
  unfolding all_writes
  told_done later ms m h =
      ap (done_all (all_writes later)) (told_more t m ms ∙ taken_leaves (taken (told ms) m (told_length t ms ∙ w) h))
      ∙ sym (done_all_append (message_writes m) (all_writes later) (told ms))

  told_later : (later ms : List (List ℕ)) → all_kept ms ≡ true
      → done_all (all_writes later) (told (kept_of later ms)) ≡ done_all (all_writes later) (told ms)
  unfolding kept_of all_kept needless all_writes
  told_later later [] h = refl
  told_later later (m ∷ older) h =
      let b = both_true (is_status m) (all_kept older) h in
      go b.0 (needless later m) refl
      ∙ told_later (m ∷ later) older b.1
      ∙ sym (told_done later older m b.0)
    where
      ks : List (List ℕ)
      ks = kept_of (m ∷ later) older

      go : is_status m ≡ true → (b : Bool) → needless later m ≡ b
          → done_all (all_writes later) (told (cond b ks (m ∷ ks))) ≡ done_all (all_writes (m ∷ later)) (told ks)
      go s true e =
          sym (again_done (message_writes m) (all_writes later) (told ks) e)
          ∙ sym (done_all_append (message_writes m) (all_writes later) (told ks))
      go s false e = told_done later ks m s

-- whatever the table is
pub kept_table : (t : List ℕ) (ms : List (List ℕ)) → all_kept ms ≡ true
    → table_after t (oldest_first (kept_of [] ms)) ≡ table_after t (oldest_first ms)
unfolding done_all all_writes
kept_table t ms h = go (is_table t) refl
  where
    go : (b : Bool) → is_table t ≡ b → table_after t (oldest_first (kept_of [] ms)) ≡ table_after t (oldest_first ms)
    go true e = told_later t (eqb-true (length t) table_bytes e) [] ms h
    go false e = told_wrong t (kept_of [] ms) e ∙ sym (told_wrong t ms e)

-- ---- A MESSAGE IS ABOUT A ZONE EXACTLY IF IT STORES THE ZONE'S SHORT FLAGS

module _ (zone : ℕ) (m : List ℕ) where
  abbrev flags : ℕ
  flags = zone_place zone + 7

  -- 04h, those of its zone
  zone_stored : stored flags (zone_writes m) ≡ eqb (byte 2 m) zone
  unfolding stored
  zone_stored = go (eqb (byte 2 m) zone) refl
    where
      go : (t : Bool) → eqb (byte 2 m) zone ≡ t → stored flags (stores_from (zone_place (byte 2 m) + 1) (zone_run m)) ≡ t
      go true e =
          let z = eqb-true (byte 2 m) zone e in
          stored_run flags (zone_place (byte 2 m) + 1) (zone_run m) (omega arith) (omega arith)
      go false e =
          let z = eqb-false (byte 2 m) zone e in
          unstored flags (stores_from (zone_place (byte 2 m) + 1) (zone_run m))
          (every_run (NotStored flags) (zone_place (byte 2 m) + 1) (zone_run m) (λ k l p. z (omega arith)))

  -- 05h, those of its sixteen
  sixteen_stored : stored flags (flat_map (short_writes m) (up_to 16)) ≡ within (byte 2 m) zone (byte 2 m + 15)
  unfolding stored
  sixteen_stored = go (within f zone (f + 15)) refl
    where
      f : ℕ
      f = byte 2 m

      go : (t : Bool) → within f zone (f + 15) ≡ t → stored flags (flat_map (short_writes m) (up_to 16)) ≡ t
      go true e =
          let b = both_true _ _ e in
          let lo = leb-true f zone b.0 in
          let hi = leb-true zone (f + 15) b.1 in
          turn_again (short_writes m) 16 (zone - f) (stores flags 0) (omega arith)
          (rw (eq-eqb (zone_place (f + (zone - f)) + 7) flags (omega arith)) refl)
      go false e =
          unstored flags (flat_map (short_writes m) (up_to 16))
          (every_turn (NotStored flags) (short_writes m) 16
          (λ j l. (tt, ((λ p. false≢true (sym e ∙ inside j l p)), tt))))
        where
          inside : (j : ℕ) → j < 16 → flags ≡ zone_place (f + j) + 7 → within f zone (f + 15) ≡ true
          inside j l p = rw (le-leb f zone (omega arith), le-leb zone (f + 15) (omega arith)) refl

  -- no other message stores a zone's
  pub stored_about : zone < 256 → stored flags (message_writes m) ≡ about zone m
  unfolding writes_of
  stored_about h = go (eqb n 0x04) refl (eqb n 0x05) refl
    where
      n : ℕ
      n = number_of (byte 1 m)

      go : (p : Bool) → eqb n 0x04 ≡ p → (q : Bool) → eqb n 0x05 ≡ q → stored flags (writes_of n m) ≡ about zone m
      go true p q q' =
          let e = eqb-true n 0x04 p in
          ap (λ (k : ℕ). stored flags (writes_of k m)) e ∙ zone_stored ∙ sym (about_zone zone m e)
      go false p true q =
          let e = eqb-true n 0x05 q in
          ap (λ (k : ℕ). stored flags (writes_of k m)) e ∙ sixteen_stored ∙ sym (about_sixteen zone m e)
      go false p false q =
          unstored flags (writes_of n m)
          (writes_are (Every (NotStored flags)) n m (λ e. absurd (eqb-false n 0x04 p e))
          (λ e. absurd (eqb-false n 0x05 q e))
          (λ e. (
            tt,
            every_run (NotStored flags) (partition_place (byte 2 m) + 1) (take 7 (drop 2 m)) (λ k l r. omega arith),
          ))
          (λ e. every_turn (NotStored flags) (partition_short m) 8 (λ j l. (tt, ((λ r. omega arith), tt))))
          (λ e. every_run (NotStored flags) system_place (1 ∷ take 11 (drop 1 m)) (λ k l r. omega arith))
          tt)
          ∙ sym (about_other zone m (eqb-false n 0x04 p) (eqb-false n 0x05 q))

-- ---- THE NEWEST RECORD ABOUT A ZONE STAYS

newest_later : (zone : ℕ) → zone < 256 → (later ms : List (List ℕ))
    → stored (zone_place zone + 7) (all_writes later) ≡ false
    → first_record (from_newest zone (kept_of later ms)) ≡ first_record (from_newest zone ms)
unfolding kept_of from_newest first_record needless all_writes
newest_later zone h later [] n = refl
newest_later zone h later (m ∷ older) n =
    go (about zone m) refl (needless later m) refl (newest_later zone h (m ∷ later) older)
  where
    i : ℕ
    i = zone_place zone + 7

    ks : List (List ℕ)
    ks = kept_of (m ∷ later) older

    also : (a : Bool) → about zone m ≡ a → stored i (all_writes (m ∷ later)) ≡ a
    also a e = stored_append i (message_writes m) (all_writes later) ∙ rw (n, stored_about zone m h ∙ e) (or-false a)

    again : needless later m ≡ true → stored i (all_writes (m ∷ later)) ≡ false
    again e = (again_alike (message_writes m) (all_writes later) e).bytes i ∙ n

    go : (a : Bool) → about zone m ≡ a → (b : Bool) → needless later m ≡ b
        → (stored i (all_writes (m ∷ later)) ≡ false
        → first_record (from_newest zone ks) ≡ first_record (from_newest zone older))
        → first_record (from_newest zone (cond b ks (m ∷ ks))) ≡ first_record (cond a (m ∷ older) (from_newest zone older))
    go true e true f more = absurd (false≢true (sym (again f) ∙ also true e))
    go true e false f more = rw e refl
    go false e true f more = more (also false e)
    go false e false f more = rw e (more (also false e))

pub kept_newest : (zone : ℕ) (ms : List (List ℕ)) → zone < 256
    → first_record (from_newest zone (kept_of [] ms)) ≡ first_record (from_newest zone ms)
unfolding all_writes stored
kept_newest zone ms h = newest_later zone h [] ms refl
