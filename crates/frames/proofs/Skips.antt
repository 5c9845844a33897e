-- How many bytes are skipped: those with no start among them, looked at one by one or many at once. Assumes nothing.
use Rattle.std.proofs.Common.{◌≡◌, ℕ, suc, ◌+◌, ◌≤◌, Bool, true, false, cond, not, ◌||◌, eqb, ltb, List, [], ◌∷◌, ◌++◌, length, take, drop, sym, refl, ap, ◌∙◌, arith, length-append, take-append-drop, length-take-le, length-drop, drop-drop, take-add, ltb-false}
use Rattle.std.specs.Prelude.{Option, Some, None, unwrap_or}
use Rattle.std.specs.List.{fold, position_or_len}
use Rattle.std.proofs.lemmas.List.{take_at, drop_at}
use Rattle.standard.specs.Messages.{among}
use Rattle.standard.specs.Stream.{up_to_start}
use Rattle.standard.proofs.Framings.{among_append}
use Rattle.standard.proofs.Judge.{up_to_through}
use Rattle.frames.specs.Parts.{Passed}

-- whether a start is among some bytes, all of which are looked at
pub fold_among : (x : ℕ) (bytes : List ℕ) → fold (λ found b. found || eqb x b) false bytes ≡ among x bytes
fold_among x bytes = from false bytes
  where
    from : (found : Bool) (bytes : List ℕ) → fold (λ found b. found || eqb x b) found bytes ≡ found || among x bytes
    from true [] = refl
    from false [] = refl
    from true (b ∷ bytes) = from true bytes
    from false (b ∷ bytes) = from (eqb x b) bytes

module _ {x i : ℕ} {bytes : List ℕ} (p : Passed x i bytes) where
  -- a part more is
  pub pass_part : (part rest : List ℕ) (n : ℕ) → drop i bytes ≡ part ++ rest → length part ≡ n → among x part ≡ false
      → Passed x (i + n) bytes × (rest ≡ drop (i + n) bytes)
  pass_part part rest n e k none =
      let here : take n (drop i bytes) ≡ part = ap (take n) e ∙ take_at part rest n k in (
        record {
          within = omega (arith, ap length e ∙ length-append part rest, length-drop i bytes, p.within);
          no_start = ap (among x) (take-add i n bytes ∙ ap (λ l. take i bytes ++ l) here)
              ∙ among_append x (take i bytes) part
              ∙ rw (p.no_start, none);
        },
        sym (sym (drop-drop n i bytes) ∙ ap (drop n) e ∙ drop_at part rest n k),
      )

  -- the first start stands after them
  pub before : length (up_to_start x bytes) ≡ i + length (up_to_start x (drop i bytes))
  before =
      ap (λ l. length (up_to_start x l)) (sym (take-append-drop i bytes))
      ∙ ap length (up_to_through x (take i bytes) (drop i bytes) p.no_start)
      ∙ length-append (take i bytes) (up_to_start x (drop i bytes))
      ∙ rw (length-take-le i bytes p.within)

-- never more than there are
pub up_to_within : (x : ℕ) (bytes : List ℕ) → length (up_to_start x bytes) ≤ length bytes
up_to_within x [] = omega arith
up_to_within x (b ∷ bytes) =
    let later = up_to_within x bytes in
    go (eqb b x) later
  where
    go : (t : Bool) → length (up_to_start x bytes) ≤ length bytes
        → length (cond t [] (b ∷ up_to_start x bytes)) ≤ suc (length bytes)
    go true h = omega arith
    go false h = omega arith

-- they are as many as come before the place of the first one, or else all
place : (x : ℕ) (bytes : List ℕ) → position_or_len (λ b. eqb b x) bytes ≡ length (up_to_start x bytes)
place x [] = refl
place x (b ∷ bytes) = by_test (eqb b x) (place x bytes)
  where
    by_test : (t : Bool) → position_or_len (λ b. eqb b x) bytes ≡ length (up_to_start x bytes)
        → cond (not t) (1 + position_or_len (λ b. eqb b x) bytes) 0 ≡ length (cond t [] (b ∷ up_to_start x bytes))
    by_test true e = refl
    by_test false e = omega (arith, e)

module _ (x : ℕ) (bytes : List ℕ) where
  abbrev at : ℕ
  at = position_or_len (λ b. eqb b x) bytes

  place_by : (t : Bool) → ltb at (length bytes) ≡ t
      → unwrap_or (cond t (Some at) None) (length bytes) ≡ length (up_to_start x bytes)
  place_by true k = place x bytes
  place_by false k = omega (arith, ltb-false at (length bytes) k, place x bytes, up_to_within x bytes)

  pub place_or : (r : Option ℕ) → r ≡ cond (ltb at (length bytes)) (Some at) None
      → unwrap_or r (length bytes) ≡ length (up_to_start x bytes)
  place_or r e = ap (λ r. unwrap_or r (length bytes)) e ∙ place_by (ltb at (length bytes)) refl
