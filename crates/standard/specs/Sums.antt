-- Document 01, "Sum". Assumes nothing.
use Rattle.std.specs.Prelude.{ℕ, ◌%◌, List, [], ◌∷◌, map}
use Rattle.standard.specs.declared.Sums.{Sums}
use Rattle.standard.specs.Words.{total}

-- the first byte, the first two, .., all of them
unfoldable pub prefixes : List ℕ → List (List ℕ)
prefixes [] = []
prefixes (b ∷ bs) = (b ∷ []) ∷ map (λ p. b ∷ p) (prefixes bs)

-- "Sum 1 adds each byte": their total, remainder by 255
abbrev pub sum1 : List ℕ → ℕ
sum1 bs = total bs % 255

-- "sum 2 adds each sum 1": the total of the sum 1 after each byte, remainder by 255
abbrev pub sum2 : List ℕ → ℕ
sum2 bs = total (map sum1 (prefixes bs)) % 255

unfoldable pub sums_of : List ℕ → Sums
sums_of bs = record { one = sum1 bs; two = sum2 bs }
