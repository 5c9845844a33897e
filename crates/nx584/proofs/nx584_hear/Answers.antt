-- `nx584_hear` meets its contract: what `CReader::scan`, `table::store` and `nx584_reply` promise, put together by the
-- laws of InC and of Scans. Assumes nothing.
use Rattle.std.proofs.Common.{◌≡◌, ℕ, List, sym, ap, ap₂, ◌∙◌, cond, eqb, length}
use borrow.Author.Tests.{eq-eqb, ne_eqb}
use Rattle.standard.specs.Replies.{reply_of}
use Rattle.standard.specs.Table.{table_bytes, table_after, applied_to}
use Rattle.standard.specs.Questions.{table_refusal}
use Rattle.standard.proofs.Questions.{asked_whole, whole_asked}
use Rattle.standard.proofs.Sheet.{number_not_0}
use Rattle.nx584.specs.declared.CReader.{CReader}
use Rattle.nx584.specs.declared.CReading.{CReading}
use Rattle.nx584.specs.declared.CSaid.{CSaid}
use Rattle.nx584.specs.Boundary.{padded, with_reply, c_reading, c_heard, CGiven, CHears}
use Rattle.nx584.specs.Scan.{refused_as, message_in, took_in, reading_in, CScans}
use Rattle.nx584.proofs.InC.{heard_c, heard_refused, reply_said}
use Rattle.nx584.proofs.Scans.{scanned_stored}
use Rattle.nx584.proofs.nx584_hear.Goals as goal
use Rattle.nx584.proofs.nx584_hear.Goals.{in-Ok, in-Err, then-verdict-eq0, else-verdict-eq0}

-- what the next reader and what is said tell of an answer with a table
record Tells (r : CReader) (t bs : List ℕ) (next : CReader) (s : CSaid) : Type 0 where
  reads : reading_in next s ≡ c_reading (c_heard r t bs)
  stores : cond (eqb s.verdict.number 0) (applied_to t (message_in next s)) t ≡ table_after t (c_heard r t bs).said

-- a read
scanned : (r : CReader) (t bs : List ℕ) (next : CReader) (s : CSaid) → table_refusal t ≡ 0 → CScans r bs s next
    → Tells r t bs next s
scanned r t bs next s whole w =
    let line = heard_c r t bs (asked_whole t whole) in
    record {
      reads = w.says ∙ sym (ap c_reading line);
      stores = scanned_stored r bs s next w t ∙ sym (ap (λ (x : CGiven). table_after t x.said) line);
    }

-- 11: the reader as it was handed in, and no byte of the table
no_table : (r : CReader) (t bs : List ℕ) → (table_refusal t ≡ 0 → ⊥) → Tells r t bs r (refused_as (table_refusal t))
unfolding table_refusal table_after
no_table r t bs other =
    let long : length t ≡ table_bytes → ⊥ = λ e. other (whole_asked t e) in
    record {
      reads = rw (heard_refused r t bs long, ne_eqb (length t) table_bytes long);
      stores = rw (heard_refused r t bs long, ne_eqb (length t) table_bytes long);
    }

-- the answer, with the message in its array, and the table
answer : (r : CReader) (t bs : List ℕ) (next : CReader) (s : CSaid) {after message : List ℕ} {reply : ℕ}
    → Tells r t bs next s → message ≡ padded (message_in next s) → reply ≡ reply_of s.verdict.number s.verdict.type_byte
    → after ≡ cond (eqb s.verdict.number 0) (applied_to t (message_in next s)) t
    → CHears r t bs (with_reply (took_in next s message) reply) after
answer r t bs next s w m said stores =
    let took = ap (took_in next s) m ∙ w.reads in
    let reply = said
    ∙ ap (λ (x : CReading). reply_of x.verdict x.type_byte) w.reads
    ∙ reply_said (c_heard r t bs).said in
    record { says = ap₂ with_reply took reply; leaves = stores ∙ w.stores }

pub returns : goal.returns
returns c =
    let r = c.args.reader in
    let t = c.args.table.now in
    let bs = c.args.bytes.now in
    let next = c.match-check.reader in
    let s = c.match-check.said in
    let tells : Tells r t bs next s =
    elim c.match-check.branch [
      | in-Ok w ↦ rw (w.reader-is, w.said-is) (scanned r t bs _ _ (sym w.in-Ok.ensures) w.scan-said.ensures)
      | in-Err w ↦
          let number = w.number.ensures ∙ w.in-Err.ensures in
          rw (w.reader-is, w.said-is, w.refused-said.ensures, number)
          (no_table r t bs (λ e. number_not_0 w.in-Err.refusal (w.in-Err.ensures ∙ e)))
    ]
    in
    let stores : c.if-verdict-eq0.table ≡ cond (eqb s.verdict.number 0) (applied_to t (message_in next s)) t =
    elim c.if-verdict-eq0.branch [
      | then-verdict-eq0 w ↦
          rw (eq-eqb s.verdict.number 0 w.if-verdict-eq0.true)
          (w.table-is ∙ w.store.ensures ∙ ap (applied_to t) c.message-message.ensures)
      | else-verdict-eq0 w ↦ rw (ne_eqb s.verdict.number 0 w.if-verdict-eq0.false) w.table-is
    ]
    in
    answer r t bs next s tells (c.array_of.ensures ∙ ap padded c.message-message.ensures) c.nx584_reply.ensures stores
