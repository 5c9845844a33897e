-- The answer of `listen`, from that of `scan`: refused with 11 or 12, or with the table after what was handed out and
-- the reply to it. Assumes nothing.
use Prim.Native.Nat.{ℕ, ◌+◌, ◌-◌, ◌≤◌}
use native.Mathlib.Omega.{arith}
use mathlib.Core.Path.{◌≡◌, refl, sym, ap, ◌∙◌}
use mathlib.Core.Bool.{Bool, true, false}
use mathlib.Core.List.{List, [], ◌∷◌, map, head-eq_of_cons-eq}
use lib.ListN.{length, take, drop, length-take, length-drop, length-map}
use lib.Dec.{eqb}
use borrow.Author.Tests.{eqb-true, eqb-false, eq-eqb, ne_eqb, le-leb, lt-leb}
use Rattle.std.specs.Prelude.{Option}
use Rattle.std.specs.Prelude.{Some, None}
use Rattle.standard.specs.declared.Verdict.{Verdict}
use Rattle.standard.specs.declared.Reply.{Reply}
use Rattle.standard.specs.declared.Reply.TheVariants.{Nothing}
use Rattle.standard.specs.Messages.{longest}
use Rattle.standard.specs.Judge.{Handed, handing, verdict_for, verdicts_in, handed_in}
use Rattle.standard.specs.Replies.{reply_number}
use Rattle.standard.specs.Table.{table_bytes, table_after}
use Rattle.standard.proofs.Replies.{reply_none}
use Rattle.reader.specs.declared.Reader.{Reader}
use Rattle.reader.specs.Read.{Given, read_of, Gives, not_sound, lent_read, Lent}
use Rattle.reader.proofs.State.Arrays.{lent_read_lem, lent_none}
use Rattle.reader.proofs.State.Handing.{said_for, one_verdict}
use Rattle.host.specs.Hear.{reply_to, heard_by, Hears}

-- ---- what a call hears

-- 11: nothing is used, and the reader is handed back
pub no_table : (r : Reader) (t bs : List ℕ) → (length t ≡ table_bytes → ⊥)
    → heard_by r t bs ≡ record { reader = r; used = 0; said = handing 11 [] ∷ [] }
unfolding heard_by
no_table r t bs h = rw (ne_eqb (length t) table_bytes h)

-- with a whole table a call hears what a scan gives
pub heard_scan : (r : Reader) (t bs : List ℕ) → length t ≡ table_bytes → heard_by r t bs ≡ lent_read r bs
unfolding heard_by
heard_scan r t bs h = rw (eq-eqb (length t) table_bytes h)

-- and with a reader's array what a read gives
pub heard_read : (r : Reader) (t bs : List ℕ) → length t ≡ table_bytes → length r.bytes ≡ longest + 3
    → heard_by r t bs ≡ read_of r bs
heard_read r t bs h w = heard_scan r t bs h ∙ lent_read_lem r bs w

-- ---- what it answers

-- a refusal: nothing is used, reader and table stay, and there is no reply
pub refused : (number : ℕ) (r : Reader) (t bs : List ℕ) → 9 ≤ number → (number ≡ 15 → ⊥)
    → heard_by r t bs ≡ record { reader = r; used = 0; said = handing number [] ∷ [] }
    → Hears r t bs r 0 (Some (record { number = number; type_byte = 0; length = 0 })) Nothing t
unfolding table_after
refused number r t bs h other e =
    let some = ne_eqb number 0 (λ z. omega arith) in
    let above = le-leb 6 number (omega arith) in
    let beyond = lt-leb number 8 (omega arith) in
    record {
      gives = rw (e, some, above, beyond) (record { next = refl; verdict = refl; handed = refl });
      uses = rw e;
      replies = rw e (sym (reply_none number _ h other));
      leaves = rw (e, some);
    }

-- a read that said `heard`, and the reply and the table that go with it
pub hears : (r : Reader) (t bs : List ℕ) {reader : Reader} {used : ℕ} {heard said : Option Verdict} {reply : Reply}
    {after : List ℕ} → heard ≡ said → heard_by r t bs ≡ lent_read r bs → Lent r bs reader used heard
    → reply_number reply ≡ reply_to (handed_in said reader.bytes)
    → after ≡ table_after t (handed_in said reader.bytes) → Hears r t bs reader used said reply after
hears r t bs {reader} {used} {heard} {said} s e read p q =
    let as_said : Lent r bs reader used said = rw s at read in
    let handed = as_said.gives.handed in
    record {
      gives = rw e as_said.gives;
      uses = rw e as_said.uses;
      replies = rw e (p ∙ ap reply_to handed);
      leaves = rw e (q ∙ ap (table_after t) handed);
    }

-- ---- what it hands out

-- a message stands in the reader's bytes
pub message_fits : (v : Verdict) {said : Option Verdict} {reader : Reader} {a : Given} → said ≡ Some v → Gives reader said a
    → v.length ≤ length reader.bytes - 1
message_fits v {said} {reader} {a} s g =
    let given : Gives reader (Some v) a = rw s at g in
    let bytes = reader.bytes in
    let same : v ∷ [] ≡ map verdict_for (handed_in (Some v) bytes) =
    given.verdict ∙ ap (map verdict_for) (sym given.handed)
    in
    let size : v.length ≡ length (take v.length (drop 1 bytes)) =
    ap (λ (w : Verdict). w.length) (head-eq_of_cons-eq same)
    in
    omega (arith, length-take v.length (drop 1 bytes), length-drop 1 bytes)

-- a good message is handed out of a reader's array alone: any other is answered with 12
pub good_sized : (r : Reader) (bs : List ℕ) (v : Verdict) {said : Option Verdict} {reader : Reader} → said ≡ Some v
    → Gives reader said (lent_read r bs) → v.number ≡ 0 → length r.bytes ≡ longest + 3
good_sized r bs v {said} {reader} s g z = go (eqb (length r.bytes) (longest + 3)) refl
  where
    go : (t : Bool) → eqb (length r.bytes) (longest + 3) ≡ t → length r.bytes ≡ longest + 3
    go true e = eqb-true (length r.bytes) (longest + 3) e
    go false e =
        let none = lent_none r bs (eqb-false (length r.bytes) (longest + 3) e) in
        let given : Gives reader (Some v) (not_sound r) = rw none at (rw s at g) in
        absurd (omega (arith, ap (λ (w : Verdict). w.number) (head-eq_of_cons-eq given.verdict)))

few : (said : Option Verdict) (hs : List Handed) → verdicts_in said ≡ map verdict_for hs → length hs ≤ 1
few None hs e = omega (arith, ap length e, length-map hs verdict_for)
few (Some v) hs e = omega (arith, ap length e, length-map hs verdict_for)

-- "at most one verdict"
pub one_said : (r : Reader) (bs : List ℕ) → length (read_of r bs).said ≤ 1
one_said r bs = few (said_for (read_of r bs).said) (read_of r bs).said (one_verdict r bs)
