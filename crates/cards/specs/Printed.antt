-- Document 01, "Bench cards": card 13, what is printed; and of card 14. Assumes nothing.
use Rattle.std.specs.Prelude.{ℕ}
use Prim.Native.String.{String}
use mathlib.Core.List.{List, [], ◌∷◌, ◌++◌, flat_map}
use Rattle.standard.specs.Text.{characters}
use Rattle.cards.specs.Cards.{line1, line5}

-- "`nxread` on card 5 then card 1"
abbrev pub capture : List ℕ
capture = line5 ++ line1

-- groups 2 to 16, of which nothing is heard
abbrev pub unheard : List String
unheard =
    "2 0 -9999" ∷ "3 0 -9999" ∷ "4 0 -9999" ∷ "5 0 -9999" ∷ "6 0 -9999" ∷ "7 0 -9999" ∷ "8 0 -9999" ∷ "9 0 -9999"
    ∷ "10 0 -9999" ∷ "11 0 -9999" ∷ "12 0 -9999" ∷ "13 0 -9999" ∷ "14 0 -9999" ∷ "15 0 -9999" ∷ "16 0 -9999" ∷ []

-- what it "prints", in lines
abbrev pub printed : List String
printed = "0 05 --" ∷ "0 1D --" ∷ "1 16 1" ∷ unheard

-- and what it prints of card 14, which it reads by the old rule of escapes: the sums differ, and 15 is not given
abbrev pub printed_noisy : List String
printed_noisy = "5 -- 1E" ∷ "1 0 -9999" ∷ unheard

-- "0Ah ends each line"
unfoldable pub of_lines : List String → List ℕ
of_lines lines = flat_map (λ line. characters line ++ (0x0A ∷ [])) lines
