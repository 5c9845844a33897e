-- Callers of `hear`, for demand 3: reads handed in one after another, and what a call left unused before the next. What
-- a caller has heard is made of what its calls answer. Over `answer_of` and `standard` alone. Assumes nothing.
use Rattle.std.specs.Prelude.{ℕ, zero, suc, ◌+◌, ◌≡◌, cond, eqb, length, drop}
use mathlib.Core.List.{List, [], ◌∷◌, ◌++◌, map, flat_map}
use Rattle.standard.specs.declared.Framing.{Framing}
use Rattle.standard.specs.declared.Escapes.{Escapes}
use Rattle.standard.specs.Framing.{start_of}
use Rattle.standard.specs.Judge.{Handed}
use Rattle.standard.specs.Stream.{handed_of}
use Rattle.standard.specs.Replies.{reply_of}
use Rattle.standard.specs.Table.{fresh, table_after}
use Rattle.reader.specs.declared.Reader.{Reader}
use Rattle.reader.specs.Calls.{joined, handed_before}
use Rattle.host.specs.Hear.{answer_of}

-- what was handed out, the reply to each verdict (0: none), the replies that were sent, and the table at the end
pub record Heard : Type 0 where
  pub handed : List Handed
  pub replies : List ℕ
  pub sent : List ℕ
  pub table : List ℕ

-- what a host sends that is told a reply: nothing where there is none
abbrev pub sends : ℕ → List ℕ
sends reply = cond (eqb reply 0) [] (reply ∷ [])

-- ---- the uncut stream

abbrev pub reply_for : Handed → ℕ
reply_for h = reply_of h.verdict h.type_byte_of

-- some verdicts with their replies, and the table after them
abbrev pub heard_as : List ℕ → List Handed → Heard
heard_as t hs = record {
  handed = hs;
  replies = map reply_for hs;
  sent = flat_map (λ h. sends (reply_for h)) hs;
  table = table_after t hs;
}

-- THE UNCUT STREAM: split before every start byte, each part judged by itself, its replies, and a fresh table after it
abbrev pub stream_heard : Escapes → Framing → List ℕ → Heard
stream_heard rule f stream = heard_as fresh (handed_of rule f stream)

-- ---- calls

abbrev pub no_call : List ℕ → Heard
no_call t = record { handed = []; replies = []; sent = []; table = t }

-- what is heard first, and what then
abbrev pub then_heard : Heard → Heard → Heard
then_heard first later = record {
  handed = first.handed ++ later.handed;
  replies = first.replies ++ later.replies;
  sent = first.sent ++ later.sent;
  table = later.table;
}

-- one call more, before what later calls hear: what it said, and the reply that it told
abbrev pub also_heard : List Handed → ℕ → Heard → Heard
also_heard said reply later = record {
  handed = said ++ later.handed;
  replies = map (λ h. reply) said ++ later.replies;
  sent = sends reply ++ later.sent;
  table = later.table;
}

-- what n calls hear, or fewer where the reads are used up
unfoldable pub hearings_of : ℕ → Reader → List ℕ → List (List ℕ) → Heard
hearings_of zero r t reads = no_call t
hearings_of (suc n) r t [] = no_call t
hearings_of (suc n) r t (bs ∷ reads) =
    let a = answer_of r t bs in
    let left = handed_before (drop a.gives.used bs) reads in
    also_heard a.gives.said a.reply (hearings_of n a.gives.reader a.table left)

-- THE RUN over a list of reads: a call uses a byte or ends a read, so that this many are enough
unfoldable pub hear_all : Reader → List ℕ → List (List ℕ) → Heard
hear_all r t reads = hearings_of (length (joined reads) + length reads) r t reads

-- any caller: after a call it hands in what was left and what is still to come, cut again as it likes
pub data Hearings : Reader → List ℕ → List (List ℕ) → Heard → Type 0 where
  finished : {r : Reader} {t : List ℕ} → Hearings r t [] (no_call t)
  call : {r : Reader} {t bs : List ℕ} {reads again : List (List ℕ)} {later : Heard}
      → joined again ≡ drop (answer_of r t bs).gives.used bs ++ joined reads
      → Hearings (answer_of r t bs).gives.reader (answer_of r t bs).table again later
      → Hearings r t (bs ∷ reads) (also_heard (answer_of r t bs).gives.said (answer_of r t bs).reply later)

-- ---- an intact frame, between any bytes p and q

-- before it: p, as if the frame's start byte were its last
abbrev pub heard_before : Escapes → Framing → List ℕ → Heard
heard_before rule f p = stream_heard rule f (p ++ (start_of f ∷ []))

-- its own verdict h with the reply to it, a good message in the table, and then what q gives
abbrev pub heard_amid : Escapes → Framing → List ℕ → Handed → List ℕ → Heard
heard_amid rule f p h q =
    let t = (heard_before rule f p).table in
    then_heard (heard_before rule f p)
    (also_heard (h ∷ []) (reply_for h) (heard_as (table_after t (h ∷ [])) (handed_of rule f q)))
