-- AN INTACT FRAME IS HEARD after all kinds of noise, and whatever follows it: its verdict, its reply and its effect on
-- the table are its own, and what stands before it is heard as if the frame's start byte were its last.
-- Assumes nothing.
use Prim.Native.Nat.{ℕ}
use mathlib.Core.Path.{◌≡◌, refl, ap, ◌∙◌}
use mathlib.Core.Bool.{true, false}
use mathlib.Core.List.{List, [], ◌∷◌, ◌++◌, flat_map}
use lib.ListN.{length}
use Rattle.standard.specs.declared.Framing.{Framing}
use Rattle.standard.specs.declared.Escapes.{Escapes}
use Rattle.standard.specs.Words.{byte}
use Rattle.standard.specs.Messages.{length_ok, length_for, among, check_of}
use Rattle.standard.specs.Framing.{start_of, frame_of}
use Rattle.standard.specs.Judge.{Handed, decided, handing, judge}
use Rattle.standard.specs.Stream.{handed_of}
use Rattle.standard.specs.Replies.{reply_of}
use Rattle.standard.specs.Table.{fresh, applied_to, table_after}
use Rattle.standard.proofs.Words.{map_append, flat_map_append}
use Rattle.standard.proofs.Messages.{good_length, check_six}
use Rattle.standard.proofs.Framings.{Bytes}
use Rattle.standard.proofs.Stored.{after_append}
use Rattle.standard.proofs.Stream.{handed_every}
use Rattle.standard.proofs.Decided.{handed_amid_part}
use Rattle.reader.specs.Read.{fresh_reader}
use Rattle.reader.specs.Calls.{joined}
use Rattle.host.specs.Hearings.{Heard, sends, reply_for, heard_as, stream_heard, then_heard, also_heard, hear_all}
use Rattle.host.specs.Hearings.{Hearings}
use Rattle.host.specs.Hearings.{heard_before, heard_amid}
use Rattle.host.proofs.Demand3.{demand3, demand3_any_caller}

-- some verdicts, and others after them
heard_append : (t : List ℕ) (a b : List Handed)
    → heard_as t (a ++ b) ≡ then_heard (heard_as t a) (heard_as (table_after t a) b)
heard_append t a b =
    rw (map_append reply_for a b, flat_map_append (λ h. sends (reply_for h)) a b, after_append t a b)

-- one verdict, before others
heard_one_lem : (t : List ℕ) (h : Handed) (hs : List Handed)
    → heard_as t (h ∷ hs) ≡ also_heard (h ∷ []) (reply_for h) (heard_as (table_after t (h ∷ [])) hs)
unfolding table_after flat_map
heard_one_lem t h hs = refl

amid : (rule : Escapes) (f : Framing) (p q : List ℕ) (h : Handed)
    → heard_as fresh (handed_of rule f (p ++ (start_of f ∷ [])) ++ (h ∷ handed_of rule f q)) ≡ heard_amid rule f p h q
amid rule f p q h =
    let before = handed_of rule f (p ++ (start_of f ∷ [])) in
    heard_append fresh before (h ∷ handed_of rule f q)
    ∙ ap (then_heard (heard_before rule f p)) (heard_one_lem (table_after fresh before) h (handed_of rule f q))

-- EVERY PART THAT IS DECIDED, whichever its verdict; it may go on after the byte that decides
module _ (rule : Escapes) (f : Framing) (p part q : List ℕ) (h : Handed) (reads : List (List ℕ))
    (none : among (start_of f) part ≡ false)
    (e : judge rule f (start_of f ∷ part) ≡ decided h) (j : joined reads ≡ p ++ (start_of f ∷ part ++ q)) where
  stream : stream_heard rule f (joined reads) ≡ heard_amid rule f p h q
  stream =
      ap (stream_heard rule f) j ∙ ap (heard_as fresh) (handed_amid_part rule f p part q h none e) ∙ amid rule f p q h

  pub intact : hear_all (fresh_reader rule f) fresh reads ≡ heard_amid rule f p h q
  intact = demand3 rule f reads ∙ stream

  pub intact_any_caller : {heard : Heard} → Hearings (fresh_reader rule f) fresh reads heard
      → heard ≡ heard_amid rule f p h q
  intact_any_caller c = demand3_any_caller rule f c ∙ stream

-- THE FRAME OF EVERY MESSAGE OF 1 TO 255 BYTES has the verdict of the message's own tests
pub every_frame : (rule : Escapes) (f : Framing) (p m q : List ℕ) (reads : List (List ℕ)) → length_ok (length m) ≡ true
    → Bytes m
    → joined reads ≡ p ++ (frame_of f m ++ q)
    → hear_all (fresh_reader rule f) fresh reads ≡ heard_amid rule f p (handing (check_of m) m) q
every_frame rule f p m q reads h b j =
    demand3 rule f reads
    ∙ ap (stream_heard rule f) j
    ∙ ap (heard_as fresh) (handed_every rule f p m q h b)
    ∙ amid rule f p q (handing (check_of m) m)

-- AN UNKNOWN ONE, HOWEVER LONG, IS REJECTED WITH 1Fh: its verdict is 6, and the table stays
pub unknown_rejected : (rule : Escapes) (f : Framing) (p m q : List ℕ) (reads : List (List ℕ))
    → length_ok (length m) ≡ true → Bytes m
    → length_for (byte 1 m) ≡ 0 → joined reads ≡ p ++ (frame_of f m ++ q)
    → let before = heard_before rule f p in
    hear_all (fresh_reader rule f) fresh reads
    ≡ then_heard before (also_heard (handing 6 m ∷ []) 0x1F (heard_as before.table (handed_of rule f q)))
unfolding table_after reply_of
unknown_rejected rule f p m q reads h b unknown j =
    every_frame rule f p m q reads h b j ∙ ap (λ (n : ℕ). heard_amid rule f p (handing n m) q) (check_six m h unknown)

-- A MESSAGE'S FRAME, as it is written: the message goes into the table, and its type byte decides the reply
pub intact_frame : (rule : Escapes) (f : Framing) (p m q : List ℕ) (reads : List (List ℕ)) → check_of m ≡ 0 → Bytes m
    → joined reads ≡ p ++ (frame_of f m ++ q)
    → let before = heard_before rule f p in
    hear_all (fresh_reader rule f) fresh reads
    ≡ then_heard before
    (also_heard (handing 0 m ∷ []) (reply_of 0 (byte 1 m)) (heard_as (applied_to before.table m) (handed_of rule f q)))
unfolding table_after
intact_frame rule f p m q reads h b j =
    every_frame rule f p m q reads (good_length m h) b j ∙ ap (λ (n : ℕ). heard_amid rule f p (handing n m) q) h
