-- Groups of the overview in C's numbers, one after another. Assumes nothing.
use Rattle.std.proofs.Common.{◌≡◌, ℕ, ◌+◌, ◌<◌, List, [], ◌∷◌, ◌++◌, sym, ap₂, ◌∙◌, map, take, length, get_or}
use native.Mathlib.Numerals.{add-one}
use lib.ListN.{set}
use lib.Seq.{take-suc, take-suc-set}
use Rattle.standard.specs.declared.Group.{Group}
use Rattle.standard.specs.Overview.{group_values}
use Rattle.standard.proofs.Words.{map_append}
use Rattle.nx584.specs.declared.CGroup.{CGroup}
use Rattle.nx584.specs.Boundary.{c_group}

abbrev pub in_numbers : Group → CGroup
in_numbers g = c_group (group_values g)

-- one group more stands in its place
pub one_more : (gs : List Group) (l : List CGroup) (i : ℕ) (g : CGroup) (d : Group) → i < length l → i < length gs
    → g ≡ in_numbers (get_or gs i d)
    → take i l ≡ map in_numbers (take i gs)
    → take (i + 1) (set l i g) ≡ map in_numbers (take (i + 1) gs)
one_more gs l i g d h k e done =
    rw (add-one, take-suc-set, take-suc gs i d)
    (ap₂ (λ x y. x ++ (y ∷ [])) done e ∙ sym (map_append in_numbers (take i gs) (get_or gs i d ∷ [])))
