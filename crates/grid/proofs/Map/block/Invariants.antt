-- After i turns the counts are those of the block's first i rows, at most 16 each. Assumes nothing.
use Rattle.std.proofs.Common.{◌≡◌, ◌+◌, ◌*◌, ◌≤◌, ℕ}
use mathlib.Core.List.{List, map}
use Rattle.standard.specs.Words.{up_to, total}
use Rattle.standard.specs.Overview.{heard_from, faulted_from}
use Rattle.grid.proofs.Map.block.Given as goal

-- the counts of row i of the block
abbrev pub heard_row : List ℕ → ℕ → ℕ → ℕ → ℕ → ℕ
heard_row t n top left i = heard_from t (16 * (top + i) + left) n

abbrev pub faulted_row : List ℕ → ℕ → ℕ → ℕ → ℕ → ℕ
faulted_row t n top left i = faulted_from t (16 * (top + i) + left) n

-- after so many turns
pub record Rows (t : List ℕ) (n top left heard faulted i : ℕ) : Type 0 where
  pub heard_is : heard ≡ total (map (heard_row t n top left) (up_to i))
  pub faulted_is : faulted ≡ total (map (faulted_row t n top left) (up_to i))
  pub few : heard ≤ 16 * i
  pub some : faulted ≤ 16 * i

abbrev pub invariant-loop-i : goal.invariant-loop-i
invariant-loop-i l = Rows l.fn.self.table.now l.side l.top l.left l.heard l.faulted l.i
