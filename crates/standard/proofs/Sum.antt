-- Laws of the sums: one byte more, their bound, and that 00h and FFh count alike. Assumes nothing.
use Prim.Native.Nat.{ℕ, ◌+◌, ◌%◌, ◌≤◌, ◌<◌}
use native.Mathlib.Nat.{add-zero, mod-add-mod, add-mod_right}
use native.Mathlib.Numerals.{add-one}
use native.Mathlib.Omega.{arith}
use mathlib.Core.Path.{◌≡◌, refl, sym, ap, ◌∙◌}
use mathlib.Core.List.{List, [], ◌∷◌, ◌++◌, map, append_assoc, append-nil}
use lib.ListN.{length, get_or, take}
use lib.Seq.{take-suc}
use Rattle.standard.specs.declared.Sums.{Sums}
use Rattle.standard.specs.Words.{total}
use Rattle.standard.specs.Sums.{prefixes, sum1, sum2, sums_of}
use Rattle.standard.proofs.Words.{total_append, map_append}

-- the sums after one byte more, from those before it
abbrev pub stepped : Sums → ℕ → Sums
stepped s b = record { one = (s.one + b) % 255; two = (s.two + (s.one + b) % 255) % 255 }

prefixes_more : (bs : List ℕ) (b : ℕ) → prefixes (bs ++ (b ∷ [])) ≡ prefixes bs ++ ((bs ++ (b ∷ [])) ∷ [])
unfolding prefixes
prefixes_more [] b = refl
prefixes_more (a ∷ bs) b =
    ap (λ l. (a ∷ []) ∷ map (λ p. a ∷ p) l) (prefixes_more bs b)
    ∙ ap (λ l. (a ∷ []) ∷ l) (map_append (λ p. a ∷ p) (prefixes bs) ((bs ++ (b ∷ [])) ∷ []))

pub sum1_more : (bs : List ℕ) (b : ℕ) → sum1 (bs ++ (b ∷ [])) ≡ (sum1 bs + b) % 255
unfolding total
sum1_more bs b =
    ap (λ n. n % 255) (total_append bs (b ∷ []) ∙ ap (λ n. total bs + n) (add-zero b))
    ∙ sym (mod-add-mod (total bs) 255 b)

pub sum2_more : (bs : List ℕ) (b : ℕ) → sum2 (bs ++ (b ∷ [])) ≡ (sum2 bs + (sum1 bs + b) % 255) % 255
unfolding total
sum2_more bs b =
    let before = map sum1 (prefixes bs) in
    let last = sum1 (bs ++ (b ∷ [])) in
    ap (λ l. total (map sum1 l) % 255) (prefixes_more bs b)
    ∙ ap (λ l. total l % 255) (map_append sum1 (prefixes bs) ((bs ++ (b ∷ [])) ∷ []))
    ∙ ap (λ n. n % 255) (total_append before (last ∷ []) ∙ ap (λ n. total before + n) (add-zero last ∙ sum1_more bs b))
    ∙ sym (mod-add-mod (total before) 255 ((sum1 bs + b) % 255))

-- before the first byte
pub sums_none : sums_of [] ≡ record { one = 0; two = 0 }
unfolding sums_of prefixes total
sums_none = refl

-- one byte more
pub sums_more : (bs : List ℕ) (b : ℕ) → sums_of (bs ++ (b ∷ [])) ≡ stepped (sums_of bs) b
unfolding sums_of
sums_more bs b = let x = sum1_more bs b in let y = sum2_more bs b in cc

-- the turn of a loop over the bytes
pub sums_turn : (m : List ℕ) (i : ℕ) → i < length m → stepped (sums_of (take i m)) (get_or m i 0) ≡ sums_of (take (i + 1) m)
sums_turn m i h =
    sym (ap sums_of (ap (λ n. take n m) (add-one i) ∙ take-suc m i 0 h) ∙ sums_more (take i m) (get_or m i 0))

-- "A sum is 0 to 254"
pub record Small (s : Sums) : Type 0 where
  pub one : s.one ≤ 254
  pub two : s.two ≤ 254

pub sums_small : (bs : List ℕ) → Small (sums_of bs)
unfolding sums_of
sums_small bs = record { one = omega arith; two = omega arith }

-- so neither is ever FFh, whatever the bytes are
pub never_ff : (bs : List ℕ) → ((sums_of bs).one ≡ 0xFF → ⊥) × ((sums_of bs).two ≡ 0xFF → ⊥)
never_ff bs = let small = sums_small bs in ((λ e. omega arith), (λ e. omega arith))

-- where the sums of two lists are alike, they stay so with the same bytes after both
sums_alike : (p q bs : List ℕ) → sums_of p ≡ sums_of q → sums_of (p ++ bs) ≡ sums_of (q ++ bs)
sums_alike p q [] h = ap sums_of (append-nil p) ∙ h ∙ sym (ap sums_of (append-nil q))
sums_alike p q (b ∷ bs) h =
    ap sums_of (sym (append_assoc p (b ∷ []) bs))
    ∙ sums_alike (p ++ (b ∷ [])) (q ++ (b ∷ [])) bs (sums_more p b ∙ ap (λ s. stepped s b) h ∙ sym (sums_more q b))
    ∙ ap sums_of (append_assoc q (b ∷ []) bs)

-- "a data byte of 00h and one of FFh count alike"
pub zero_like_ff : (a b : List ℕ) → sums_of (a ++ (0x00 ∷ b)) ≡ sums_of (a ++ (0xFF ∷ b))
zero_like_ff a b =
    ap sums_of (sym (append_assoc a (0x00 ∷ []) b))
    ∙ sums_alike (a ++ (0x00 ∷ [])) (a ++ (0xFF ∷ [])) b (sums_more a 0x00 ∙ step ∙ sym (sums_more a 0xFF))
    ∙ ap sums_of (append_assoc a (0xFF ∷ []) b)
  where
    step : stepped (sums_of a) 0x00 ≡ stepped (sums_of a) 0xFF
    step =
        ap (λ n. record { one = n; two = ((sums_of a).two + n) % 255 })
        (ap (λ n. n % 255) (add-zero (sums_of a).one) ∙ sym (add-mod_right (sums_of a).one 255))
