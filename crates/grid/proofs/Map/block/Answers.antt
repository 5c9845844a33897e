-- A turn adds a run of zones, the row of the block. Assumes nothing.
use Rattle.std.proofs.Common.{◌≡◌, ◌+◌, ◌*◌, ◌<◌, ◌≤◌, ℕ, length}
use native.Mathlib.Omega.{arith}
use mathlib.Core.Path.{refl, sym, ap, ap₂, ◌∙◌}
use mathlib.Core.List.{List}
use Rattle.standard.specs.declared.Counts.{Counts}
use Rattle.standard.specs.Words.{up_to, total}
use Rattle.standard.specs.Table.{table_bytes}
use Rattle.standard.specs.Overview.{run_of}
use Rattle.standard.proofs.Words.{total_more}
use Rattle.standard.proofs.Seen.{run_whole}
use Rattle.grid.specs.declared.Level.{Level}
use Rattle.grid.specs.Grid.{wide, side, heard_cell, faulted_cell}
use Rattle.grid.proofs.Blocks.{heard_rows, faulted_rows, run_bounded}
use Rattle.grid.proofs.Rows.{inside_level}
use Rattle.grid.proofs.Map.block.Invariants.{heard_row, faulted_row, Rows}
use Rattle.grid.proofs.Map.block.Goals as goal

-- a row's counts
record Row (t : List ℕ) (n top left i : ℕ) (r : Counts) : Type 0 where
  heard : r.heard ≡ heard_row t n top left i
  faulted : r.faulted ≡ faulted_row t n top left i
  few : r.heard ≤ 16
  some : r.faulted ≤ 16

module _ (t : List ℕ) (level : Level) (n row column : ℕ) (is : n ≡ side level) where
  turn : (r : Counts) (i : ℕ) → length t ≡ table_bytes → (row < wide level) × (column < wide level) → i < n
      → r ≡ run_of t (16 * (n * row + i) + n * column) n → Row t n (n * row) (n * column) i r
  turn r i whole among more e =
      let from = 16 * (n * row + i) + n * column in
      let high : n * row + n ≤ 16 = rw is (inside_level level row among.0) in
      let far : n * column + n ≤ 16 = rw is (inside_level level column among.1) in
      let counts = e ∙ run_whole t from n whole (omega arith) in
      let b = run_bounded t from n in
      let heard = ap (λ (r : Counts). r.heard) counts in
      let faulted = ap (λ (r : Counts). r.faulted) counts in
      record { heard = heard; faulted = faulted; few = omega arith; some = omega arith }

  counted : {heard faulted : ℕ} (i : ℕ) → i ≡ n → Rows t n (n * row) (n * column) heard faulted i
      → (heard ≡ heard_cell t level row column) × (faulted ≡ faulted_cell t level row column)
  counted i end rows =
      let all = rw (end, is) at rows in
      (all.heard_is ∙ sym (heard_rows t _ _ _), all.faulted_is ∙ sym (faulted_rows t _ _ _))

pub loop-i-init : goal.loop-i-init
unfolding up_to total
loop-i-init c = record { heard_is = refl; faulted_is = refl; few = omega arith; some = omega arith }

pub overflow_add-heard : goal.overflow_add-heard
overflow_add-heard c =
    let map = c.args.self.now in
    let r = turn map.table.now map.level _ c.args.row c.args.column c.side-side.ensures _ c.loop-i.i map.whole c.requires c.loop-i-test.true c.run-run.ensures in
    omega arith

pub overflow_add-faulted : goal.overflow_add-faulted
overflow_add-faulted c =
    let map = c.args.self.now in
    let r = turn map.table.now map.level _ c.args.row c.args.column c.side-side.ensures _ c.loop-i.i map.whole c.requires c.loop-i-test.true c.run-run.ensures in
    omega arith

pub loop-i-preserved : goal.loop-i-preserved
loop-i-preserved c =
    let map = c.args.self.now in
    let r = turn map.table.now map.level _ c.args.row c.args.column c.side-side.ensures _ c.loop-i.i map.whole c.requires c.loop-i-test.true c.run-run.ensures in
    record {
      heard_is = rw total_more (ap₂ ◌+◌ c.loop-i.invariant.heard_is r.heard);
      faulted_is = rw total_more (ap₂ ◌+◌ c.loop-i.invariant.faulted_is r.faulted);
      few = omega arith;
      some = omega arith;
    }

pub returns : goal.returns
returns c =
    let map = c.args.self.now in
    let both = counted map.table.now map.level _ c.args.row c.args.column c.side-side.ensures c.loop-i.i (omega arith) c.loop-i.invariant in
    λ i. record { heard = both.0 i; faulted = both.1 i }
