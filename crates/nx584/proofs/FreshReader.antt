-- Demand 2 over the reader's own `read`: a fresh reader of either rule on a written frame, whatever follows it, gives
-- verdict 0 and the message, and uses exactly the frame's bytes. By the used-byte rule: the frame hands out its
-- message, and no shorter beginning of it hands out anything. Assumes nothing.
use Prim.Native.Nat.{ℕ, ◌+◌, ◌<◌}
use native.Mathlib.Omega.{arith}
use mathlib.Core.Path.{◌≡◌, refl, sym, ap, ap₂, ◌∙◌}
use mathlib.Core.Bool.{false}
use mathlib.Core.List.{List, [], ◌∷◌, ◌++◌, append-nil, cons≢nil}
use lib.ListN.{length, take, drop, length-append, take-append-drop}
use lib.Seq.{take-append-le, take-append_seam}
use Rattle.standard.specs.declared.Framing.{Framing}
use Rattle.standard.specs.declared.Escapes.{Escapes}
use Rattle.standard.specs.Messages.{among, check_of}
use Rattle.standard.specs.Framing.{start_of, frame_of}
use Rattle.standard.specs.Judge.{Handed, unfinished, handing, judge}
use Rattle.standard.specs.Stream.{up_to_start, parts_of, parts_hand, handed_of}
use Rattle.standard.proofs.Messages.{neither_true}
use Rattle.standard.proofs.Framings.{Bytes, among_append}
use Rattle.standard.proofs.Judge.{up_to_through, parts_through, parts_start}
use Rattle.reader.specs.declared.Mode.TheVariants.{Skipping}
use Rattle.reader.specs.Step.{State}
use Rattle.reader.specs.Read.{fresh_reader, read_of}
use Rattle.reader.specs.Calls.{fresh, Uses}
use Rattle.reader.proofs.Stream.Parts.{run, after, run_append, run_parts}
use Rattle.reader.proofs.Stream.Used.{used_rule, used_unique}
use Rattle.writer.proofs.RoundTrip.{FrameReads, frame_reads, write_then_read_one}

-- one part, which is unfinished, hands out nothing
alone : (rule : Escapes) (f : Framing) (l : List ℕ) → among (start_of f) l ≡ false
    → judge rule f (start_of f ∷ l) ≡ unfinished
    → handed_of rule f (start_of f ∷ l) ≡ []
alone rule f l a u =
    let start = start_of f in
    let same = sym (append-nil l) in
    let whole : up_to_start start l ≡ l = ap (up_to_start start) same ∙ up_to_through start l [] a ∙ append-nil l in
    let none : parts_of start l ≡ [] = ap (parts_of start) same ∙ parts_through start l [] a in
    let one = ap₂ (λ (p : List ℕ) (ps : List (List ℕ)). (start ∷ p) ∷ ps) whole none in
    ap (parts_hand rule f) (parts_start start l ∙ one) ∙ rw u

nil_front : (a b : List Handed) → a ++ b ≡ [] → a ≡ []
nil_front [] b e = refl
nil_front (h ∷ a) b e = absurd (cons≢nil e)

-- a beginning of a stream that hands out nothing hands out nothing
front_none : (rule : Escapes) (f : Framing) (k : ℕ) (l : List ℕ) → handed_of rule f l ≡ []
    → handed_of rule f (take k l) ≡ []
front_none rule f k l e =
    let s : State = record { mode = Skipping f; held = [] } in
    let front = take k l in
    nil_front (handed_of rule f front) (run rule (after rule s front) (drop k l))
    (ap (λ (x : List Handed). x ++ run rule (after rule s front) (drop k l))
    (sym (run_parts rule f [] front (tt, refl)))
    ∙ sym (run_append rule s front (drop k l))
    ∙ ap (run rule s) (take-append-drop k l)
    ∙ run_parts rule f [] l (tt, refl)
    ∙ e)

module _ (rule : Escapes) (f : Framing) (m q : List ℕ) (good : check_of m ≡ 0) (bytes : Bytes m) where
  none_sooner : (k : ℕ) → k < length (frame_of f m) → handed_of rule f (take k (frame_of f m ++ q)) ≡ []
  none_sooner k h =
      let w : FrameReads rule f m = frame_reads rule f m good bytes in
      let front = start_of f ∷ w.front in
      let size : length (frame_of f m) ≡ length front + 1 = ap length w.is ∙ length-append front (w.last ∷ []) in
      let clear : among (start_of f) w.front ≡ false =
      (neither_true (among (start_of f) w.front) (among (start_of f) (w.last ∷ []))
      (sym (among_append (start_of f) w.front (w.last ∷ [])) ∙ w.reads.alone)).0 in
      let begin : take k (frame_of f m ++ q) ≡ take k front =
      take-append-le k (frame_of f m) q (omega arith) ∙ ap (take k) w.is
      ∙ take-append-le k front (w.last ∷ []) (omega arith) in
      ap (handed_of rule f) begin ∙ front_none rule f k front (alone rule f w.front clear w.reads.before)

  uses : Uses rule f [] (frame_of f m ++ q) (length (frame_of f m)) (handing 0 m ∷ [])
  uses = record {
    within = simp length-append (omega arith);
    verdict = ap (handed_of rule f) (take-append_seam (frame_of f m) q) ∙ write_then_read_one rule f m good bytes;
    none_sooner = none_sooner;
    or_all = λ e. absurd (cons≢nil e);
  }

  -- WRITTEN, THEN READ by a fresh reader: the message, and exactly the frame's bytes used
  pub fresh_reads : (let a = read_of (fresh_reader rule f) (frame_of f m ++ q) in
      (a.used ≡ length (frame_of f m)) × (a.said ≡ handing 0 m ∷ []))
  fresh_reads =
      let a = read_of (fresh_reader rule f) (frame_of f m ++ q) in
      used_unique rule f [] (frame_of f m ++ q) a.used (length (frame_of f m)) a.said
      (handing 0 m ∷ []) (used_rule fresh (frame_of f m ++ q)) uses
