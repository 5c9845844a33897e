-- Laws of `total`, `up_to` and `first_of`, and of lists made from lists. Assumes nothing.
use Prim.Native.Nat.{ℕ, zero, suc, ◌+◌, ◌*◌, ◌≤◌, zero-le}
use native.Mathlib.Nat.{suc-mul}
use native.Mathlib.Numerals.{add-one}
use native.Mathlib.Omega.{arith}
use mathlib.Core.Path.{◌≡◌, refl, sym, ap, ap₂, ◌∙◌}
use mathlib.Core.List.{List, [], ◌∷◌, ◌++◌, map, flat_map, append_assoc}
use lib.ListN.{length, length-append}
use Rattle.standard.specs.Words.{up_to, total}

pub total_append : (a b : List ℕ) → total (a ++ b) ≡ total a + total b
unfolding total
total_append [] b = omega arith
total_append (n ∷ a) b = let h = total_append a b in omega arith

pub map_append : {A B : Type 0} (f : A → B) (a b : List A) → map f (a ++ b) ≡ map f a ++ map f b
map_append f [] b = refl
map_append f (x ∷ a) b = ap (λ l. f x ∷ l) (map_append f a b)

pub flat_map_append : {A B : Type 0} (f : A → List B) (a b : List A) → flat_map f (a ++ b) ≡ flat_map f a ++ flat_map f b
unfolding flat_map
flat_map_append f [] b = refl
flat_map_append f (x ∷ a) b =
    ap (λ l. f x ++ l) (flat_map_append f a b) ∙ sym (append_assoc (f x) (flat_map f a) (flat_map f b))

pub length_up_to : (n : ℕ) → length (up_to n) ≡ n
unfolding up_to
length_up_to zero = refl
length_up_to (suc n) = let h = length_up_to n in simp length-append (omega arith)

-- one number more
pub up_to_more : (n : ℕ) → up_to (n + 1) ≡ up_to n ++ (n ∷ [])
unfolding up_to
up_to_more n = rw add-one

pub map_more : {A : Type 0} (f : ℕ → A) (n : ℕ) → map f (up_to (n + 1)) ≡ map f (up_to n) ++ (f n ∷ [])
map_more f n = ap (map f) (up_to_more n) ∙ map_append f (up_to n) (n ∷ [])

pub total_more : (f : ℕ → ℕ) (n : ℕ) → total (map f (up_to (n + 1))) ≡ total (map f (up_to n)) + f n
unfolding total
total_more f n = ap total (map_more f n) ∙ total_append (map f (up_to n)) (f n ∷ []) ∙ omega arith

pub map_same : {A B : Type 0} (f g : A → B) → ((x : A) → f x ≡ g x) → (l : List A) → map f l ≡ map g l
map_same f g h [] = refl
map_same f g h (x ∷ l) = ap₂ ◌∷◌ (h x) (map_same f g h l)

pub map_map : {A B C : Type 0} (f : A → B) (g : B → C) (l : List A) → map g (map f l) ≡ map (λ x. g (f x)) l
map_map f g [] = refl
map_map f g (x ∷ l) = ap (λ m. g (f x) ∷ m) (map_map f g l)

-- each at most c: n of them at most n times c
pub total_le : (f : ℕ → ℕ) (c : ℕ) → ((x : ℕ) → f x ≤ c) → (l : List ℕ) → total (map f l) ≤ length l * c
unfolding total
total_le f c h [] = zero-le
total_le f c h (x ∷ l) = let a = total_le f c h l in let b = h x in rw suc-mul (omega arith)

pub total_mono : (f g : ℕ → ℕ) → ((x : ℕ) → f x ≤ g x) → (l : List ℕ) → total (map f l) ≤ total (map g l)
unfolding total
total_mono f g h [] = zero-le
total_mono f g h (x ∷ l) = let a = total_mono f g h l in let b = h x in omega arith
