-- DEMAND 3: from a fresh reader and a fresh table, however the stream is cut into reads, the verdicts, the messages
-- and type bytes handed out, the replies and the final table are those of the uncut stream, split before every start
-- byte and each part judged by itself. The reader's theorem gives what is handed out; a call's reply and table follow
-- from what it said, which is one verdict at most. Assumes nothing.
use Prim.Native.Nat.{ℕ, zero, suc, ◌+◌, ◌≤◌}
use native.Mathlib.Omega.{arith}
use mathlib.Core.Path.{◌≡◌, refl, ap, ◌∙◌}
use mathlib.Core.Bool.{Bool, true, false, cond}
use mathlib.Core.List.{List, [], ◌∷◌, ◌++◌, flat_map}
use lib.Dec.{eqb}
use lib.ListN.{length, drop}
use Rattle.standard.specs.declared.Framing.{Framing}
use Rattle.standard.specs.declared.Escapes.{Escapes}
use Rattle.standard.specs.declared.Escapes.TheVariants.{Strict, Lenient}
use Rattle.standard.specs.Messages.{longest}
use Rattle.standard.specs.Judge.{Handed}
use Rattle.standard.specs.Stream.{stream_needed}
use Rattle.standard.specs.Table.{table_bytes, fresh, applied_to, table_after}
use Rattle.standard.proofs.Applied.{applied_length}
use Rattle.standard.proofs.Strict.{handed_alike}
use Rattle.reader.specs.declared.Reader.{Reader}
use Rattle.reader.specs.Read.{fresh_reader, Given, read_of}
use Rattle.reader.specs.Calls.{joined, handed_before, calls_of, drive, Calls}
use Rattle.reader.specs.Calls.{finished as no_call, call as one_call}
use Rattle.reader.proofs.State.Arrays.{Whole, whole_read}
use Rattle.reader.proofs.Stream.Demand3.{reads_are_parts, any_caller}
use Rattle.host.specs.Hear.{heard_by, reply_to}
use Rattle.host.proofs.Answers.{heard_read, one_said}
use Rattle.host.specs.Hearings.{Heard, heard_as, stream_heard, also_heard, hearings_of, hear_all, Hearings, finished}
use Rattle.host.specs.Hearings.{call}

-- ---- the table after a list

kept_length : (good : Bool) (t m : List ℕ) → length (cond good (applied_to t m) t) ≡ length t
kept_length true t m = applied_length t m
kept_length false t m = refl

pub after_length : (t : List ℕ) (hs : List Handed) → length (table_after t hs) ≡ length t
unfolding table_after
after_length t [] = refl
after_length t (h ∷ hs) =
    let good = eqb h.verdict 0 in
    after_length (cond good (applied_to t h.message) t) hs ∙ kept_length good t h.message

fresh_whole : length fresh ≡ table_bytes
unfolding fresh
fresh_whole = refl

-- ---- one call

-- a table and a reader's array as code has them, which stay so
pub record Fit (r : Reader) (t : List ℕ) : Type 0 where
  pub table : length t ≡ table_bytes
  pub array : length r.bytes ≡ longest + 3

pub fresh_fit : (rule : Escapes) (f : Framing) → Fit (fresh_reader rule f) fresh
fresh_fit rule f = record { table = fresh_whole; array = refl }

pub fit_read : (r : Reader) (t bs : List ℕ) → Fit r t → Fit (read_of r bs).reader (table_after t (read_of r bs).said)
unfolding Whole
fit_read r t bs w = record { table = after_length t (read_of r bs).said ∙ w.table; array = whole_read r bs w.array }

-- a silent call sends nothing, and any other the reply to its verdict
pub also_as : (t : List ℕ) (said hs : List Handed) → length said ≤ 1
    → also_heard said (reply_to said) (heard_as (table_after t said) hs) ≡ heard_as t (said ++ hs)
unfolding table_after flat_map
also_as t [] hs few = refl
also_as t (h ∷ []) hs few = refl
also_as t (h ∷ g ∷ said) hs few = absurd (omega arith)

-- ---- THE THEOREM

hearings_calls : (n : ℕ) (r : Reader) (t : List ℕ) (reads : List (List ℕ)) → Fit r t
    → hearings_of n r t reads ≡ heard_as t (calls_of n r reads)
unfolding hearings_of calls_of table_after flat_map
hearings_calls zero r t reads w = refl
hearings_calls (suc n) r t [] w = refl
hearings_calls (suc n) r t (bs ∷ reads) w =
    let said = (read_of r bs).said in
    let next = (read_of r bs).reader in
    let left = handed_before (drop (read_of r bs).used bs) reads in
    rw (heard_read r t bs w.table w.array)
    (ap (also_heard said (reply_to said)) (hearings_calls n next (table_after t said) left (fit_read r t bs w))
    ∙ also_as t said (calls_of n next left) (one_said r bs))

-- the caller that hands in what is left before the next read
pub demand3 : (rule : Escapes) (f : Framing) (reads : List (List ℕ))
    → hear_all (fresh_reader rule f) fresh reads ≡ stream_heard rule f (joined reads)
unfolding hear_all drive
demand3 rule f reads =
    hearings_calls (length (joined reads) + length reads) (fresh_reader rule f) fresh reads (fresh_fit rule f)
    ∙ ap (heard_as fresh) (reads_are_parts rule f reads)

-- what any caller has heard, and that its reads are those of a caller of `read`
record Calling (r : Reader) (t : List ℕ) (reads : List (List ℕ)) (heard : Heard) : Type 0 where
  calls : Calls r reads heard.handed
  heard_as_lem : heard ≡ heard_as t heard.handed

calling_again : (r : Reader) (t bs : List ℕ) (reads again : List (List ℕ)) (later : Heard) (a : Given) → a ≡ read_of r bs
    → joined again ≡ drop a.used bs ++ joined reads → Calling a.reader (table_after t a.said) again later
    → Calling r t (bs ∷ reads) (also_heard a.said (reply_to a.said) later)
calling_again r t bs reads again later a e j c = record {
  calls = rw e (one_call (rw e at j) (rw e at c.calls));
  heard_as_lem =
      ap (also_heard a.said (reply_to a.said)) c.heard_as_lem
      ∙ also_as t a.said later.handed (rw e (one_said r bs));
}

calling : {r : Reader} {t : List ℕ} {reads : List (List ℕ)} {heard : Heard} → Hearings r t reads heard → Fit r t
    → Calling r t reads heard
unfolding table_after flat_map
calling finished w = record { calls = no_call; heard_as_lem = refl }
calling (call {r} {t} {bs} {reads} {again} {later} j c) w =
    let e = heard_read r t bs w.table w.array in
    calling_again r t bs reads again later (heard_by r t bs) e j (calling c (rw e (fit_read r t bs w)))

-- the same for any caller, which cuts again as it likes what is left and what is still to come
pub demand3_any_caller : (rule : Escapes) (f : Framing) {reads : List (List ℕ)} {heard : Heard}
    → Hearings (fresh_reader rule f) fresh reads heard → heard ≡ stream_heard rule f (joined reads)
demand3_any_caller rule f {reads} {heard} c =
    let w = calling c (fresh_fit rule f) in
    w.heard_as_lem ∙ ap (heard_as fresh) (any_caller rule f w.calls)

-- STRICTNESS COSTS NOBODY: where every escape was needed, the verdicts, the replies and the table are those of the old
-- rule
pub heard_alike : (f : Framing) (stream : List ℕ) → stream_needed f stream ≡ true
    → stream_heard Strict f stream ≡ stream_heard Lenient f stream
heard_alike f stream h = ap (heard_as fresh) (handed_alike f stream h)
