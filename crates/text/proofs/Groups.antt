-- The lines of the groups, and the turn of the loop that puts them. Assumes nothing.
use Prim.Native.Nat.{ℕ, suc, ◌+◌, ◌<◌}
use native.Mathlib.Numerals.{add-one}
use native.Mathlib.Omega.{arith}
use mathlib.Core.Path.{◌≡◌, refl, ap, ◌∙◌}
use mathlib.Core.Bool.{cond, ◌&&◌}
use mathlib.Core.List.{List, [], ◌∷◌, ◌++◌, map, flat_map, append-nil}
use lib.Dec.{ltb}
use lib.ListN.{length}
use borrow.Author.Tests.{eq-eqb, ne_eqb, lt-ltb}
use Rattle.standard.specs.declared.Group.{Group}
use Rattle.standard.specs.Words.{up_to}
use Rattle.standard.specs.Table.{table_bytes, is_table}
use Rattle.standard.specs.Overview.{Counted, counted, heard_of, faulted_of, group_values, Bounded}
use Rattle.standard.specs.Report.{decimal, minus9999, faulted_text, counts_line, group_line}
use Rattle.standard.proofs.Seen.{group_bounded}
use Rattle.standard.proofs.Words.{flat_map_append, map_more}

pub not_heard : (heard faulted : ℕ) → heard ≡ 0 → faulted_text heard faulted ≡ minus9999
not_heard heard faulted h = rw (eq-eqb heard 0 h)

pub heard_some : (heard faulted : ℕ) → (heard ≡ 0 → ⊥) → faulted_text heard faulted ≡ decimal faulted
heard_some heard faulted h = rw (ne_eqb heard 0 h)

-- ---- the loop

-- the lines of the first k groups
abbrev pub first_lines : (ℕ → List ℕ) → ℕ → List ℕ
first_lines line k = flat_map line (map suc (up_to k))

pub lines_more : (line : ℕ → List ℕ) (k : ℕ) → first_lines line (k + 1) ≡ first_lines line k ++ line (suc k)
unfolding flat_map
lines_more line k =
    ap (flat_map line) (map_more suc k)
    ∙ flat_map_append line (map suc (up_to k)) (suc k ∷ [])
    ∙ ap (λ l. first_lines line k ++ l) (append-nil (line (suc k)))

-- of group k + 1 of a whole table, as the overview gives it,
module _ (t : List ℕ) (k : ℕ) (g : Group) (whole : length t ≡ table_bytes) (among : k < 16)
    (told : group_values g
    ≡ cond (is_table t && ltb k 16) (counted (heard_of t (suc k)) (faulted_of t (suc k))) (counted 0 0)) where
  seen : group_values g ≡ counted (heard_of t (suc k)) (faulted_of t (suc k))
  seen = rw (eq-eqb (length t) table_bytes whole, lt-ltb k 16 among) at told

  heard : g.heard ≡ heard_of t (suc k)
  heard = ap (λ (x : Counted). x.heard) seen

  faulted : g.faulted ≡ faulted_of t (suc k)
  faulted = ap (λ (x : Counted). x.faulted) seen

  -- the counts are small
  pub few : Bounded g.heard g.faulted 16
  few =
      let b = group_bounded t (suc k) in
      record { among = omega (arith, b.among, heard, faulted); few = omega (arith, b.few, heard) }

  -- and the line that they make is the group's
  pub line_seen : counts_line (k + 1) g.heard g.faulted ≡ group_line t (suc k)
  line_seen = rw (add-one, heard, faulted) refl
