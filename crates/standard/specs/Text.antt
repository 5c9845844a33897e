-- A text's characters as bytes. Assumes nothing.
use Rattle.std.specs.Prelude.{ℕ}
use Prim.Native.Char.{code}
use Prim.Native.String.{String, [], ◌∷◌}
use mathlib.Core.List as L

unfoldable pub characters : String → L.List ℕ
characters [] = L.[]
characters (c ∷ text) = L.◌∷◌ (code c) (characters text)
