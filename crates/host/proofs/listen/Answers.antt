-- `host::listen` meets its contract: what `scan`, `store` and `reply` promise, put together by the laws of Answers.
-- Assumes nothing.
use Rattle.std.proofs.Common.{◌≡◌, ◌≢◌, ℕ, List, refl, sym, ◌∙◌, arith}
use Rattle.standard.specs.Table.{table_after}
use Rattle.standard.specs.Questions.{table_refusal}
use Rattle.standard.proofs.Questions.{asked_whole, whole_asked, refused_11}
use Rattle.standard.proofs.Sheet.{number_not_0}
use Rattle.reader.specs.declared.Reader.{Reader}
use Rattle.reader.specs.Read.{lent_read}
use Rattle.host.specs.Hear.{heard_by}
use Rattle.host.proofs.Answers.{no_table, heard_scan, refused, hears, message_fits, good_sized}
use Rattle.host.proofs.listen.Goals as goal

-- where the read begins, a call hears what it gives
heard : (r : Reader) (t bs : List ℕ) → 0 ≡ table_refusal t → heard_by r t bs ≡ lent_read r bs
heard r t bs e = heard_scan r t bs (asked_whole _ (sym e))

-- the one number with which a table is refused
pub returns-in-Err : goal.returns-in-Err
returns-in-Err c =
    let t = c.args.table.now in
    let bad : table_refusal t ≢ 0 = λ z. number_not_0 c.in-Err.refusal (c.in-Err.ensures ∙ z) in
    let eleven : c.number.result ≡ 11 = c.number.ensures ∙ c.in-Err.ensures ∙ refused_11 t bad in
    rw eleven
    (refused 11 _ t c.args.bytes.now (omega arith) (λ z. omega arith)
    (no_table _ t c.args.bytes.now (λ z. bad (whole_asked _ z))))

pub store-requires : goal.store-requires
store-requires c z =
    let gives = c.scan-mode.ensures.gives in
    let sized = good_sized _ c.args.bytes.now c.in-Some.verdict c.in-Some.is gives z in
    omega (arith, message_fits c.in-Some.verdict c.in-Some.is gives, c.scan-mode.auto.frame, sized)

pub returns-in-None : goal.returns-in-None
unfolding table_after
returns-in-None c =
    rw c.in-None.is
    (hears _ _ _ c.in-None.is (heard _ _ _ c.in_default.ensures) c.scan-mode.ensures refl refl)

pub returns-in-Some : goal.returns-in-Some
returns-in-Some c =
    hears _ _ _ c.in-Some.is (heard _ _ _ c.in_default.ensures) c.scan-mode.ensures
    c.reply-reply.ensures c.store.ensures
