-- DEMAND 3 at the boundary, over what the calls of C answer: a reader that C hands back is the one that it was given,
-- and an answer's numbers tell what was handed out; so a caller of `nx584_read` is one of `read`, and a caller of
-- `nx584_hear` one of `hear`. Assumes nothing.
use Prim.Native.Nat.{ℕ, zero, suc, ◌+◌, ◌≤◌}
use native.Mathlib.Omega.{arith}
use mathlib.Core.Path.{◌≡◌, refl, sym, ap, ◌∙◌}
use mathlib.Core.Logic.{◌⊎◌, inl, inr}
use mathlib.Core.Bool.{true}
use mathlib.Core.List.{List, [], ◌∷◌, ◌++◌, map, flat_map}
use lib.ListN.{length, drop}
use lib.Seq.{take-append_seam}
use borrow.Author.Tests.{ne_eqb}
use Rattle.standard.specs.declared.Escapes.{Escapes}
use Rattle.standard.specs.Judge.{Handed, verdict_for, verdicts_in}
use Rattle.standard.specs.Stream.{handed_of}
use Rattle.standard.specs.Table.{table_bytes, fresh, table_after}
use Rattle.standard.proofs.Refusals.{no_refusal}
use Rattle.reader.specs.declared.Reader.{Reader}
use Rattle.reader.specs.Read.{fresh_reader, sound_reader, read_of}
use Rattle.reader.specs.Calls.{joined, handed_before, calls_of, drive, Calls}
use Rattle.reader.specs.Calls.{finished as no_call, call as one_call}
use Rattle.reader.proofs.State.Arrays.{sound_read, rule_stays}
use Rattle.reader.proofs.State.Handing.{said_for, one_verdict, sound_verdict}
use Rattle.reader.proofs.Stream.Demand3.{reads_are_parts, any_caller}
use Rattle.host.specs.Hear.{reply_to}
use Rattle.host.specs.Hearings.{Heard, heard_as, stream_heard, also_heard}
use Rattle.host.proofs.Answers.{one_said}
use Rattle.host.proofs.Demand3.{after_length, also_as}
use Rattle.nx584.specs.declared.CReader.{CReader}
use Rattle.nx584.specs.declared.CReading.{CReading}
use Rattle.nx584.specs.declared.CHearing.{CHearing}
use Rattle.nx584.specs.Boundary.{framing_for, escapes_for, escapes_number, c_reader, c_fresh, number_said, type_said}
use Rattle.nx584.specs.Boundary.{message_said, padded}
use Rattle.nx584.specs.Boundary.{c_took, c_read, c_reading, c_heard, c_hearing, c_left, CHears}
use Rattle.nx584.specs.Callers.{handed_by, reading_hands, hearing_hands}
use Rattle.nx584.specs.Callers.{c_calls_of, c_drive, CCalls, finished, call}
use Rattle.nx584.specs.Callers.{c_hearings_of, c_hear_all, CHearings, done, hear}
use Rattle.nx584.proofs.InC.{read_took, heard_c}
use Rattle.nx584.proofs.Back.{reader_back, escapes_back, sound_back}

-- ---- one answer

-- what was said, from its numbers: 255 is no verdict, and the message is given back without its zeros
told_back : (hs : List Handed) → verdicts_in (said_for hs) ≡ map verdict_for hs
    → ((h : Handed) (more : List Handed) → hs ≡ h ∷ more → h.verdict ≡ 255 → ⊥)
    → handed_by (number_said hs) (type_said hs) (length (message_said hs)) (padded (message_said hs)) ≡ hs
told_back [] one other = refl
told_back (h ∷ []) one other = rw (ne_eqb h.verdict 255 (other h [] refl), take-append_seam h.message _)
told_back (h ∷ g ∷ hs) one other = absurd (let z = ap length one in omega arith)

-- C's number of a reader's rule of escapes, which is handed back as it was
abbrev Rules : ℕ → Reader → Type 0
Rules n r = escapes_for n ≡ r.escapes

rules_read : (n : ℕ) (r : Reader) (bs : List ℕ) → Rules n r → Rules n (read_of r bs).reader
rules_read n r bs k = k ∙ sym (rule_stays r bs)

-- a read of a sound reader
pub read_back : (n : ℕ) (r : Reader) (bs : List ℕ) → Rules n r → sound_reader r ≡ true
    → c_read (c_reader n r) bs ≡ c_took n (read_of r bs)
read_back n r bs k h =
    read_took (c_reader n r) bs (sound_back n r k ∙ h) ∙ ap (λ x. c_took n (read_of x bs)) (reader_back n r k)

pub said_back : (n : ℕ) (r : Reader) (bs : List ℕ) → Rules n r → sound_reader r ≡ true
    → reading_hands (c_reading (c_read (c_reader n r) bs)) ≡ (read_of r bs).said
said_back n r bs k h =
    rw (read_back n r bs k h)
    (told_back (read_of r bs).said (one_verdict r bs)
    (λ g more e. verdict_255 (no_refusal r.escapes (sound_verdict r bs g more h e))))
  where
    verdict_255 : {v : ℕ} → v ≤ 8 ⊎ (v ≡ 15) → v ≡ 255 → ⊥
    verdict_255 (inl few) e = omega arith
    verdict_255 (inr fifteen) e = omega arith

-- ---- `nx584_read`

calls_same : (e n : ℕ) (r : Reader) (reads : List (List ℕ)) → Rules e r → sound_reader r ≡ true
    → c_calls_of n (c_reader e r) reads ≡ calls_of n r reads
unfolding c_calls_of calls_of
calls_same e zero r reads k h = refl
calls_same e (suc n) r [] k h = refl
calls_same e (suc n) r (bs ∷ reads) k h =
    let left = handed_before (drop (read_of r bs).used bs) reads in
    rw (said_back e r bs k h, read_back e r bs k h)
    (ap (λ hs. (read_of r bs).said ++ hs)
    (calls_same e n (read_of r bs).reader left (rules_read e r bs k) (sound_read r bs h)))

-- the caller that hands in what is left before the next read
pub c_cuts : (rule : Escapes) (framing : ℕ) (reads : List (List ℕ))
    → c_drive (c_fresh rule framing) reads ≡ handed_of rule (framing_for framing) (joined reads)
unfolding c_drive drive
c_cuts rule framing reads =
    calls_same (escapes_number rule) (length (joined reads) + length reads) (fresh_reader rule (framing_for framing)) reads
    (escapes_back rule) refl
    ∙ reads_are_parts rule (framing_for framing) reads

calls_are : {c : CReader} {reads : List (List ℕ)} {hs : List Handed} → CCalls c reads hs
    → (n : ℕ) (r : Reader) → c ≡ c_reader n r → Rules n r → sound_reader r ≡ true → Calls r reads hs
calls_are finished n r e k h = no_call
calls_are (call {c} {bs} {reads} {again} {hs} {a} answer j calls) n r e k h =
    let x : a ≡ c_reading (c_took n (read_of r bs)) = answer ∙ ap (λ y. c_reading (c_read y bs)) e
    ∙ ap c_reading (read_back n r bs k h) in
    let said : reading_hands a ≡ (read_of r bs).said = ap reading_hands (answer ∙ ap (λ y. c_reading (c_read y bs)) e)
    ∙ said_back n r bs k h in
    let used : a.used ≡ (read_of r bs).used = ap (λ (y : CReading). y.used) x in
    let next = ap (λ (y : CReading). y.reader) x in
    let later = calls_are calls n (read_of r bs).reader next (rules_read n r bs k) (sound_read r bs h) in
    rw said (one_call (rw used at j) later)

-- any caller
pub c_cuts_any_caller : (rule : Escapes) (framing : ℕ) {reads : List (List ℕ)} {hs : List Handed}
    → CCalls (c_fresh rule framing) reads hs
    → hs ≡ handed_of rule (framing_for framing) (joined reads)
c_cuts_any_caller rule framing c =
    any_caller rule (framing_for framing)
    (calls_are c (escapes_number rule) (fresh_reader rule (framing_for framing)) refl (escapes_back rule) refl)

-- ---- `nx584_hear`

-- what a sound reader and a whole table give, by the numbers of the answer
record Answers (n : ℕ) (r : Reader) (t bs : List ℕ) (a : CHearing) (after : List ℕ) : Type 0 where
  said : hearing_hands a ≡ (read_of r bs).said
  reply : a.reply ≡ reply_to (read_of r bs).said
  next : a.reader ≡ c_reader n (read_of r bs).reader
  used : a.used ≡ (read_of r bs).used
  left : after ≡ table_after t (read_of r bs).said

hear_back : (n : ℕ) (r : Reader) (t bs : List ℕ) (a : CHearing) (after : List ℕ) → Rules n r → sound_reader r ≡ true
    → length t ≡ table_bytes
    → CHears (c_reader n r) t bs a after → Answers n r t bs a after
hear_back n r t bs a after k h w p =
    let e = heard_c (c_reader n r) t bs w ∙ read_back n r bs k h in
    let x = p.says ∙ ap c_hearing e in
    record {
      said = ap hearing_hands (p.says ∙ ap c_hearing (heard_c (c_reader n r) t bs w)) ∙ said_back n r bs k h;
      reply = ap (λ (y : CHearing). y.reply) x;
      next = ap (λ (y : CHearing). y.reader) x;
      used = ap (λ (y : CHearing). y.used) x;
      left = p.leaves ∙ ap (λ y. table_after t y.said) e;
    }

-- one answer more
module _ (n : ℕ) (r : Reader) (t bs : List ℕ) (a : CHearing) (after : List ℕ) (x : Answers n r t bs a after) where
  also_answered : (hs : List Handed)
      → also_heard (hearing_hands a) a.reply (heard_as after hs) ≡ heard_as t ((read_of r bs).said ++ hs)
  also_answered hs = rw (x.said, x.reply, x.left) (also_as t (read_of r bs).said hs (one_said r bs))

whole_after : (r : Reader) (t bs : List ℕ) → length t ≡ table_bytes
    → length (table_after t (read_of r bs).said) ≡ table_bytes
whole_after r t bs w = after_length t (read_of r bs).said ∙ w

hearings_same : (e n : ℕ) (r : Reader) (t : List ℕ) (reads : List (List ℕ)) → Rules e r → sound_reader r ≡ true
    → length t ≡ table_bytes
    → c_hearings_of n (c_reader e r) t reads ≡ heard_as t (calls_of n r reads)
unfolding c_hearings_of calls_of table_after flat_map
hearings_same e zero r t reads k h w = refl
hearings_same e (suc n) r t [] k h w = refl
hearings_same e (suc n) r t (bs ∷ reads) k h w =
    let a = c_hearing (c_heard (c_reader e r) t bs) in
    let x = hear_back e r t bs a (c_left (c_reader e r) t bs) k h w (record { says = refl; leaves = refl }) in
    let next = (read_of r bs).reader in
    let left = handed_before (drop (read_of r bs).used bs) reads in
    rw (x.next, x.used)
    (ap (also_heard (hearing_hands a) a.reply)
    (ap (λ u. c_hearings_of n (c_reader e next) u left) x.left
    ∙ hearings_same e n next (table_after t (read_of r bs).said) left (rules_read e r bs k) (sound_read r bs h)
    (whole_after r t bs w)
    ∙ ap (λ u. heard_as u (calls_of n next left)) (sym x.left))
    ∙ also_answered e r t bs a (c_left (c_reader e r) t bs) x (calls_of n next left))

fresh_whole : length fresh ≡ table_bytes
unfolding fresh
fresh_whole = refl

-- DEMAND 3 for C: the caller that hands in what is left before the next read
pub c_demand3 : (rule : Escapes) (framing : ℕ) (reads : List (List ℕ))
    → c_hear_all (c_fresh rule framing) fresh reads ≡ stream_heard rule (framing_for framing) (joined reads)
unfolding c_hear_all drive
c_demand3 rule framing reads =
    hearings_same (escapes_number rule) (length (joined reads) + length reads)
    (fresh_reader rule (framing_for framing)) fresh
    reads (escapes_back rule) refl fresh_whole
    ∙ ap (heard_as fresh) (reads_are_parts rule (framing_for framing) reads)

-- what any caller has heard, and that its reads are those of a caller of `read`
record Calling (r : Reader) (t : List ℕ) (reads : List (List ℕ)) (heard : Heard) : Type 0 where
  calls : Calls r reads heard.handed
  heard_as_lem : heard ≡ heard_as t heard.handed

calling : {c : CReader} {t : List ℕ} {reads : List (List ℕ)} {heard : Heard} → CHearings c t reads heard
    → (n : ℕ) (r : Reader) → c ≡ c_reader n r → Rules n r → sound_reader r ≡ true → length t ≡ table_bytes
    → Calling r t reads heard
unfolding table_after flat_map
calling done n r e q h w = record { calls = no_call; heard_as_lem = refl }
calling (hear {c} {t} {bs} {after} {reads} {again} {later} {a} p j hearings) n r e q h w =
    let x = hear_back n r t bs a after q h w (rw e at p) in
    let whole : length after ≡ table_bytes = ap length x.left ∙ whole_after r t bs w in
    let k = calling hearings n (read_of r bs).reader x.next (rules_read n r bs q) (sound_read r bs h) whole in
    record {
      calls = rw x.said (one_call (rw x.used at j) k.calls);
      heard_as_lem =
          ap (also_heard (hearing_hands a) a.reply) k.heard_as_lem ∙ also_answered n r t bs a after x later.handed
          ∙ ap (λ hs. heard_as t (hs ++ later.handed)) (sym x.said);
    }

-- and any caller
pub c_demand3_any_caller : (rule : Escapes) (framing : ℕ) {reads : List (List ℕ)} {heard : Heard}
    → CHearings (c_fresh rule framing) fresh reads heard
    → heard ≡ stream_heard rule (framing_for framing) (joined reads)
c_demand3_any_caller rule framing c =
    let r = fresh_reader rule (framing_for framing) in
    let w = calling c (escapes_number rule) r refl (escapes_back rule) refl fresh_whole in
    w.heard_as_lem ∙ ap (heard_as fresh) (any_caller rule (framing_for framing) w.calls)
