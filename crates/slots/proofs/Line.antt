-- What a call does with eight slots by value, done to slots that are lent; and what holds of every list of eight that is
-- written out holds of every list that has eight elements. Assumes nothing.
use Prim.Native.Nat.{ℕ, suc}
use native.Mathlib.Omega.{arith}
use mathlib.Core.Path.{◌≡◌, refl, sym, ◌∙◌}
use mathlib.Core.Bool.{Bool, true, false}
use mathlib.Core.List.{List, [], ◌∷◌}
use lib.Dec.{eqb}
use lib.ListN.{length}
use borrow.Author.Tests.{eqb-true, eqb-false}
use Rattle.std.specs.Prelude.{Result}
use Rattle.standard.specs.declared.Refusal.{Refusal}
use Rattle.commands.specs.declared.Slot.{Slot}
use Rattle.commands.specs.declared.Sending.{Sending}
use Rattle.commands.specs.declared.Called.{Called}
use Rattle.commands.specs.Commands.{After, says, after, answer_of}

-- what a call hands back and leaves of xs is what `did` says, for eight slots by value and where the slots are not eight
module _ (xs ys : List Slot) (r : Result Sending Refusal) (did : After)
    (others : (length xs ≡ 8 → ⊥) → after (answer_of r) ys ≡ after (says 22 0 []) xs)
    (refused : (length xs ≡ 8 → ⊥) → did ≡ after (says 22 0 []) xs)
    (eight : length xs ≡ 8
    → (q : Called) × (List Slot × (after (answer_of q.answer) q.line ≡ did)) × (r ≡ q.answer) × (ys ≡ q.line)) where
  pub done : after (answer_of r) ys ≡ did
  done = go (eqb (length xs) 8) refl
    where
      go : (t : Bool) → eqb (length xs) 8 ≡ t → after (answer_of r) ys ≡ did
      go true e =
          let x = eight (eqb-true (length xs) 8 e) in
          (λ j. after (answer_of (x.2 j)) (x.3 j)) ∙ x.1.1
      go false e = let n = eqb-false (length xs) 8 e in others n ∙ sym (refused n)

-- ---- eight that are written out

un_cons : {X : Type 0} (n : ℕ) (P : List X → Type 0) → ((x : X) (xs : List X) → length xs ≡ n → P (x ∷ xs))
    → (ys : List X) → length ys ≡ suc n → P ys
un_cons n P k [] e = absurd (let z : ◌≡◌ {A = ℕ} 0 (suc n) = e in omega arith)
un_cons n P k (x ∷ xs) e = k x xs (omega (arith, e))

un_nil : {X : Type 0} (P : List X → Type 0) → P [] → (ys : List X) → length ys ≡ 0 → P ys
un_nil P k [] e = k
un_nil P k (x ∷ xs) e = absurd (omega (arith, e))

-- eight of them
pub of_eight : {X : Type 0} (P : List X → Type 0)
    → ((a b c d e f g h : X) → P (a ∷ b ∷ c ∷ d ∷ e ∷ f ∷ g ∷ h ∷ [])) → (ys : List X) → length ys ≡ 8 → P ys
of_eight P k =
    un_cons 7 P (λ a. un_cons 6 (λ t. P (a ∷ t)) (λ b. un_cons 5 (λ t. P (a ∷ b ∷ t)) (λ c.
    un_cons 4 (λ t. P (a ∷ b ∷ c ∷ t)) (λ d. un_cons 3 (λ t. P (a ∷ b ∷ c ∷ d ∷ t)) (λ e.
    un_cons 2 (λ t. P (a ∷ b ∷ c ∷ d ∷ e ∷ t)) (λ f. un_cons 1 (λ t. P (a ∷ b ∷ c ∷ d ∷ e ∷ f ∷ t)) (λ g.
    un_cons 0 (λ t. P (a ∷ b ∷ c ∷ d ∷ e ∷ f ∷ g ∷ t)) (λ h.
    un_nil (λ t. P (a ∷ b ∷ c ∷ d ∷ e ∷ f ∷ g ∷ h ∷ t)) (k a b c d e f g h)))))))))
