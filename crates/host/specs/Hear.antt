-- What `hear` and `listen` answer: a read, the reply to its verdict, and the table after it. Assumes nothing.
use Rattle.std.specs.Prelude.{ℕ, ◌≡◌, cond, List, [], ◌∷◌}
use Rattle.std.specs.Prelude.{Option}
use Rattle.standard.specs.declared.Verdict.{Verdict}
use Rattle.standard.specs.declared.Reply.{Reply}
use Rattle.standard.specs.Judge.{Handed, handing}
use Rattle.standard.specs.Replies.{reply_number, reply_of}
use Rattle.standard.specs.Table.{is_table, table_after}
use Rattle.reader.specs.declared.Reader.{Reader}
use Rattle.reader.specs.Read.{Given, Gives, lent_read}

-- 11: no byte is used, and the reader is handed back
abbrev pub no_table : Reader → Given
no_table r = record { reader = r; used = 0; said = handing 11 [] ∷ [] }

-- the table is asked first: 11, then what a read gives, 12 included
unfoldable pub heard_by : Reader → List ℕ → List ℕ → Given
heard_by r t bs = cond (is_table t) (lent_read r bs) (no_table r)

-- the reply to at most one verdict; 0: none
abbrev pub reply_to : List Handed → ℕ
reply_to [] = 0
reply_to (h ∷ hs) = reply_of h.verdict h.type_byte_of

-- THE ANSWER of a call: what it gives, the number of the reply (0: none), and the table afterwards
pub record Answered : Type 0 where
  pub gives : Given
  pub reply : ℕ
  pub table : List ℕ

abbrev pub answer_of : Reader → List ℕ → List ℕ → Answered
answer_of r t bs =
    let a = heard_by r t bs in
    record { gives = a; reply = reply_to a.said; table = table_after t a.said }

-- what `hear` and `listen` promise: reader and verdict, used bytes, reply, and every byte of the table
pub record Hears (r : Reader) (t bs : List ℕ) (reader : Reader) (used : ℕ) (said : Option Verdict) (reply : Reply)
    (after : List ℕ) : Type 0 where
  pub gives : Gives reader said (answer_of r t bs).gives
  pub uses : used ≡ (answer_of r t bs).gives.used
  pub replies : reply_number reply ≡ (answer_of r t bs).reply
  pub leaves : after ≡ (answer_of r t bs).table
