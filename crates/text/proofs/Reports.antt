-- The report from its parts: the lines of the verdicts, and those of the groups after them. Assumes nothing.
use Prim.Native.Nat.{ℕ, ◌≤◌, ◌<◌, min}
use native.Mathlib.Omega.{arith}
use mathlib.Core.Path.{◌≡◌, ap, ◌∙◌}
use mathlib.Core.List.{List, ◌++◌, flat_map}
use lib.ListN.{length, take}
use lib.Seq.{take_all, take-take}
use Rattle.std.proofs.lemmas.List.{take_min}
use borrow.Author.Tests.{lt-ltb, le-ltb}
use Rattle.standard.specs.declared.Framing.TheVariants.{Binary}
use Rattle.standard.specs.declared.Escapes.TheVariants.{Lenient}
use Rattle.standard.specs.Stream.{handed_of}
use Rattle.standard.specs.Table.{fresh, table_after}
use Rattle.standard.specs.Overview.{group_numbers}
use Rattle.standard.specs.Report.{most_read, longest_report, group_line, report_on, report_of, Reported}
use Rattle.standard.proofs.Report.{room}
use Rattle.puts.specs.declared.Out.{Out}
use Rattle.puts.specs.Out.{Puts}
use Rattle.puts.proofs.Puts.{puts_then, puts_laid}
use Rattle.text.proofs.Turns.{lines_of}

-- ---- a capture of which all the bytes count

module _ (capture : List ℕ) (h : length capture ≤ most_read) where
  whole_report : report_of capture ≡ report_on (handed_of Lenient Binary capture)
  whole_report = ap (λ l. report_on (handed_of Lenient Binary l)) (take_all most_read capture h)

  module _ (table : List ℕ) (e : table ≡ table_after fresh (handed_of Lenient Binary capture)) where
    abbrev groups : List ℕ
    groups = flat_map (group_line table) group_numbers

    report_parts : report_of capture ≡ lines_of capture ++ groups
    unfolding report_on
    report_parts = rw e whole_report

    pub report_put : {o o' o'' : Out} → Puts o (lines_of capture) o' → Puts o' groups o'' → Puts o (report_of capture) o''
    report_put first second = rw report_parts (puts_then first second)

-- ---- any capture

-- the bytes beyond those that count change nothing
pub first_count : (capture : List ℕ) → report_of (take (min most_read (length capture)) capture) ≡ report_of capture
first_count capture =
    ap (λ l. report_on (handed_of Lenient Binary (take most_read l))) (take_min most_read capture)
    ∙ ap (λ l. report_on (handed_of Lenient Binary l)) (take-take most_read most_read capture (omega arith))

-- a buffer that is too short is refused
pub refused : (capture out : List ℕ) → length out < longest_report
    → Reported capture out (record { number = 9; length = 0 }) out
refused capture out h = let e = lt-ltb (length out) longest_report h in record { says = rw e; leaves = rw e }

-- and in any other the report is laid
pub answered : (capture out out' : List ℕ) (end : ℕ) → longest_report ≤ length out → (o o' : Out) → o.buffer.now ≡ out
    → o.place ≡ 0
    → Puts o (report_of capture) o'
    → out' ≡ o'.buffer.now
    → end ≡ o'.place
    → Reported capture out (record { number = 0; length = end }) out'
answered capture out out' end h o o' whole first puts is ends =
    let e = le-ltb (length out) longest_report h in
    let laid = puts_laid whole first puts is ends (omega (arith, room capture)) in
    record { says = rw e (ap (λ (k : ℕ). record { number = 0; length = k }) laid.0); leaves = rw e laid.1 }
