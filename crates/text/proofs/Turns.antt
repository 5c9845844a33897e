-- A capture heard to its end from a fresh reader: what one call adds to the lines and to the table, whichever bytes it
-- uses. Assumes nothing.
use Prim.Native.Nat.{ℕ, zero, suc, ◌+◌, ◌-◌, ◌≤◌, ◌<◌, zero-le}
use native.Mathlib.Omega.{arith}
use mathlib.Core.Path.{◌≡◌, refl, sym, ap, ap₂, ◌∙◌}
use mathlib.Core.List.{List, [], ◌∷◌, ◌++◌, map, flat_map, append-nil, append_cancel_left}
use mathlib.Core.List.{cons≢nil, nil≢cons, head-eq_of_cons-eq}
use lib.ListN.{length, take, drop, length-drop}
use lib.Seq.{take_all, take-add}
use Rattle.standard.specs.declared.Framing.TheVariants.{Binary}
use Rattle.standard.specs.declared.Escapes.TheVariants.{Lenient}
use Rattle.standard.specs.declared.Verdict.{Verdict}
use Rattle.std.specs.Prelude.{Option}
use Rattle.std.specs.Prelude.{Some, None}
use Rattle.standard.specs.declared.Reply.{Reply}
use Rattle.standard.specs.Judge.{Handed, verdict_for, verdicts_in}
use Rattle.standard.specs.Stream.{handed_of}
use Rattle.standard.specs.Replies.{reply_number}
use Rattle.standard.specs.Table.{table_bytes, table_after}
use Rattle.standard.specs.Report.{line_with, verdict_line}
use Rattle.standard.proofs.Words.{flat_map_append}
use Rattle.standard.proofs.Stored.{after_append}
use Rattle.reader.specs.declared.Reader.{Reader}
use Rattle.reader.specs.Read.{fresh_reader, read_of}
use Rattle.reader.specs.Calls.{Reached, fresh, read, Uses}
use Rattle.reader.proofs.State.Arrays.{Whole}
use Rattle.reader.proofs.Stream.Used.{met, used_rule}
use Rattle.host.specs.Hear.{reply_to, heard_by, Hears}
use Rattle.host.proofs.Answers.{heard_read}
use Rattle.host.proofs.Demand3.{after_length}
use Rattle.text.specs.Lines.{handed_with, said_lines}

-- `&capture[i..]`, as it is lent
abbrev pub rest_of : List ℕ → ℕ → List ℕ
rest_of capture i = take (length capture - i) (drop i capture)

-- the lines of the verdicts of a stream, by the old rule of escapes
abbrev pub lines_of : List ℕ → List ℕ
lines_of stream = flat_map verdict_line (handed_of Lenient Binary stream)

-- the first i bytes are heard: r is the reader then, and the table t was t₀
pub record HeardTo (capture t₀ : List ℕ) (i : ℕ) (r : Reader) (t : List ℕ) : Type 0 where
  pub within : i ≤ length capture
  pub reached : Reached Lenient Binary (take i capture) r
  pub table : t ≡ table_after t₀ (handed_of Lenient Binary (take i capture))

-- at the beginning nothing is
pub heard_none : (capture t₀ : List ℕ) → HeardTo capture t₀ 0 (fresh_reader Lenient Binary) t₀
unfolding table_after
heard_none capture t₀ = record { within = zero-le; reached = fresh; table = refl }

-- what a call adds that said this, with this reply
pub record Turn (capture t₀ : List ℕ) (i : ℕ) (said : Option Verdict) (reply used : ℕ) (next : Reader) (after : List ℕ)
    : Type 0 where
  pub on : HeardTo capture t₀ (i + used) next after
  pub moves : 0 < used
  pub lines : lines_of (take (i + used) capture) ≡ lines_of (take i capture) ++ said_lines said reply

-- ---- one call

-- a call with bytes to read uses one
moves_by : (stream bs : List ℕ) (used : ℕ) (said : List Handed) → Uses Lenient Binary stream bs used said
    → 0 < length bs
    → 0 < used
moves_by stream bs (suc n) said w h = omega arith
moves_by stream bs zero said w h =
    let before = handed_of Lenient Binary stream in
    let same = append-nil before ∙ ap (handed_of Lenient Binary) (sym (append-nil stream)) ∙ w.verdict in
    absurd (omega (arith, w.or_all (sym (append_cancel_left before [] said same))))

-- the line of at most one verdict
said_lines_lem : (said : Option Verdict) (hs : List Handed) (reply : ℕ) → verdicts_in said ≡ map verdict_for hs → reply ≡ reply_to hs
    → said_lines said reply ≡ flat_map verdict_line hs
unfolding flat_map
said_lines_lem None [] reply e r = refl
said_lines_lem None (h ∷ hs) reply e r = absurd (nil≢cons e)
said_lines_lem (Some v) [] reply e r = absurd (cons≢nil e)
said_lines_lem (Some v) (h ∷ []) reply e r =
    ap₂ (λ (w : Verdict) (n : ℕ). line_with (handed_with w) n) (head-eq_of_cons-eq e) r ∙ sym (append-nil (verdict_line h))
said_lines_lem (Some v) (h ∷ g ∷ hs) reply e r = absurd (let n = ap length e in omega arith)

rest_is : (capture : List ℕ) (i : ℕ) → rest_of capture i ≡ drop i capture
rest_is capture i = take_all (length capture - i) (drop i capture) (rw length-drop (omega arith))

-- the same call as a read of the bytes that are left
module _ {capture t₀ : List ℕ} {i : ℕ} {r : Reader} {t : List ℕ} (to : HeardTo capture t₀ i r t) where
  abbrev first : List Handed
  first = handed_of Lenient Binary (take i capture)

  -- what is handed out so far, with what the read says
  hands : let a = read_of r (drop i capture) in handed_of Lenient Binary (take (i + a.used) capture) ≡ first ++ a.said
  hands =
      let bs = drop i capture in
      ap (handed_of Lenient Binary) (take-add i (read_of r bs).used capture) ∙ (used_rule to.reached bs).verdict

  -- it is heard to the read's last byte
  goes_on : let a = read_of r (drop i capture) in HeardTo capture t₀ (i + a.used) a.reader (table_after t a.said)
  goes_on =
      let bs = drop i capture in
      let hs = (read_of r bs).said in
      record {
        within = omega (arith, (used_rule to.reached bs).within, to.within, length-drop i capture);
        reached = rw (take-add i (read_of r bs).used capture) (read bs to.reached);
        table = ap (λ l. table_after l hs) to.table ∙ sym (after_append t₀ first hs) ∙ ap (table_after t₀) (sym hands);
      }

  pub turn : length t₀ ≡ table_bytes → i < length capture
      → {next : Reader} {used : ℕ} {said : Option Verdict} {reply : Reply} {after : List ℕ}
      → Hears r t (rest_of capture i) next used said reply after
      → Turn capture t₀ i said (reply_number reply) used next after
  unfolding Whole
  turn size left {next} {used} {said} {reply} {after} hears =
      let bs = drop i capture in
      let hs = (read_of r bs).said in
      let whole = ap length to.table ∙ after_length t₀ first ∙ size in
      let e = ap (λ l. heard_by r t l) (rest_is capture i) ∙ heard_read r t bs whole (met to.reached).whole in
      let uses : used ≡ (read_of r bs).used = rw e at hears.uses in
      let on : HeardTo capture t₀ (i + used) next after = rw (uses, hears.gives.next, hears.leaves, e) goes_on in
      let verdict : verdicts_in said ≡ map verdict_for hs = rw e at hears.gives.verdict in
      let told : reply_number reply ≡ reply_to hs = rw e at hears.replies in
      let line = said_lines_lem said hs (reply_number reply) verdict told in
      let lines : lines_of (take (i + used) capture) ≡ lines_of (take i capture) ++ said_lines said (reply_number reply) =
      rw uses
      (ap (flat_map verdict_line) hands
      ∙ flat_map_append verdict_line first hs
      ∙ ap (λ l. flat_map verdict_line first ++ l) (sym line))
      in
      let some = moves_by (take i capture) bs (read_of r bs).used hs (used_rule to.reached bs) in
      record {
        on = on;
        moves = rw uses (some (omega (arith, length-drop i capture)));
        lines = lines;
      }
