-- Laws of the overview, for every table: how its counts are summed and bounded, that no unheard zone enters a share,
-- and that the paper's values settle an answer. Assumes nothing.
use Prim.Native.Nat.{ℕ, zero, suc, ◌+◌, ◌-◌, ◌*◌, ◌≤◌, ◌<◌, min}
use native.Mathlib.Nat.{eq-or-lt_of_le}
use native.Mathlib.Omega.{arith}
use mathlib.Core.Path.{◌≡◌, refl, sym, ap, ap₂, ◌∙◌}
use mathlib.Core.Bool.{Bool, true, false, cond, ◌&&◌}
use mathlib.Core.Logic.{⊎_elim}
use mathlib.Core.List.{List, [], ◌∷◌, ◌++◌, map}
use lib.ListN.{length, replicate, get_or, get_or-map, get_or-append, length-map}
use lib.Seq.{get_or_at}
use borrow.Author.Tests.{eq-eqb, ne_eqb, le-leb, lt-leb}
use Rattle.standard.specs.declared.Share.{Share}
use Rattle.standard.specs.declared.Share.TheVariants.{NotHeard}
use Rattle.standard.specs.declared.Share.TheVariants.{Share as IsShare}
use Rattle.standard.specs.declared.Counts.{Counts}
use Rattle.standard.specs.declared.Group.{Group}
use Rattle.std.specs.Prelude.{Result, Ok, Err}
use Rattle.standard.specs.declared.Overview.{Overview}
use Rattle.standard.specs.declared.Refusal.{Refusal}
use Rattle.standard.proofs.Sheet.{number_same, number_not_0}
use Rattle.standard.specs.Words.{up_to, total}
use Rattle.standard.specs.Table.{table_bytes, is_table, heard_zone, short_faulted}
use Rattle.standard.specs.Questions.{table_refusal}
use Rattle.standard.specs.Overview.{heard_one, faulted_one, zones_of, group_numbers, heard_of, faulted_of, share_number}
use Rattle.standard.specs.Overview.{counted, all_seen, seen_of, heard_from, faulted_from, none_heard, run_of}
use Rattle.standard.specs.Overview.{group_values, overview_values}
use Rattle.standard.specs.Overview.{Counted, Seen}
pub use Rattle.standard.specs.Overview.{Bounded, Alike}
use Rattle.standard.proofs.Words.{length_up_to, map_append, map_same, map_map, total_le, total_mono}
use Rattle.standard.proofs.Questions.{whole_asked}

-- ---- counts

-- a sum over the zones of group i + 1, which on the line are 16 * i and the fifteen after it
over_zones : (f : ℕ → ℕ) (i : ℕ)
    → total (map (λ z. f (z - 1)) (zones_of (suc i))) ≡ total (map (λ j. f (16 * i + j)) (up_to 16))
over_zones f i =
    ap total
    (map_map (λ j. 16 * suc i - 15 + j) (λ z. f (z - 1)) (up_to 16)
    ∙ map_same (λ j. f (16 * suc i - 15 + j - 1)) (λ j. f (16 * i + j)) (λ j. ap f (omega arith)) (up_to 16))

-- the counts of a group, from its zones' numbers on the line
pub heard_zones : (t : List ℕ) (i : ℕ) → heard_of t (suc i) ≡ heard_from t (16 * i) 16
unfolding heard_of
heard_zones t i = over_zones (heard_zone t) i

pub faulted_zones : (t : List ℕ) (i : ℕ) → faulted_of t (suc i) ≡ faulted_from t (16 * i) 16
unfolding faulted_of
faulted_zones t i = over_zones (λ z. min (heard_zone t z) (short_faulted t z)) i

-- the sums over sixteen, zones or groups, of which each has its bound
bounded : (h f : ℕ → ℕ) (most : ℕ) → ((x : ℕ) → Bounded (h x) (f x) most) → (number : ℕ → ℕ)
    → Bounded (total (map h (map number (up_to 16)))) (total (map f (map number (up_to 16)))) (16 * most)
unfolding up_to
bounded h f most each number = record {
  among = total_mono f h (λ x. (each x).among) (map number (up_to 16));
  few = total_le h most (λ x. (each x).few) (map number (up_to 16));
}

-- of a group at most 16 are heard, and of those some faulted
pub group_bounded : (t : List ℕ) (k : ℕ) → Bounded (heard_of t k) (faulted_of t k) 16
unfolding heard_of faulted_of
group_bounded t k =
    bounded (heard_one t) (faulted_one t) 1 (λ z. record { among = omega arith; few = omega arith })
    (λ j. 16 * k - 15 + j)

-- of the site at most 256
pub site_bounded : (t : List ℕ)
    → Bounded (total (map (heard_of t) group_numbers)) (total (map (faulted_of t) group_numbers)) 256
site_bounded t = bounded (heard_of t) (faulted_of t) 16 (group_bounded t) suc

-- ---- "or refuses with 11"

-- a table of its length is seen
pub seen_whole : (t : List ℕ) → length t ≡ table_bytes → seen_of t ≡ all_seen t
unfolding seen_of
seen_whole t h = rw (eq-eqb (length t) table_bytes h)

-- of any other nothing is, and the number is that of every refused question
pub seen_refused : (t : List ℕ) → (table_refusal t ≡ 0 → ⊥)
    → seen_of t ≡ record { number = table_refusal t; groups = replicate 16 (counted 0 0); site = counted 0 0 }
unfolding seen_of table_refusal
seen_refused t h = rw (ne_eqb (length t) table_bytes (λ e. h (whole_asked t e)))

-- ---- a run of zones

-- the counts of a run that there is, in a table of its length
pub run_whole : (t : List ℕ) (from n : ℕ) → length t ≡ table_bytes → from + n ≤ 256
    → run_of t from n ≡ record { heard = heard_from t from n; faulted = faulted_from t from n }
unfolding run_of
run_whole t from n h k = rw (eq-eqb (length t) table_bytes h, le-leb (from + n) 256 k)

pub run_refused : (t : List ℕ) (from n : ℕ) → (length t ≡ table_bytes → ⊥) → run_of t from n ≡ none_heard
unfolding run_of
run_refused t from n h = rw (ne_eqb (length t) table_bytes h)

pub run_beyond : (t : List ℕ) (from n : ℕ) → 256 < from + n → run_of t from n ≡ none_heard
unfolding run_of
run_beyond t from n h =
    rw (lt-leb (from + n) 256 h)
    (go (is_table t) (record { heard = heard_from t from n; faulted = faulted_from t from n }))
  where
    go : (whole : Bool) (c : Counts) → cond (whole && false) c none_heard ≡ none_heard
    go true c = refl
    go false c = refl

-- ---- "Counting an unheard zone as closed": no unheard zone enters a share

-- what is made of the numbers below n goes by those alone
pub same_below : {A : Type 0} (f g : ℕ → A) (n : ℕ) → ((x : ℕ) → x < n → f x ≡ g x) → map f (up_to n) ≡ map g (up_to n)
unfolding up_to
same_below f g zero h = refl
same_below f g (suc n) h =
    map_append f (up_to n) (n ∷ [])
    ∙ ap₂ (λ l x. l ++ (x ∷ [])) (same_below f g n (λ x b. h x (omega arith))) (h n (omega arith))
    ∙ sym (map_append g (up_to n) (n ∷ []))

-- the counts of group k, and their share
abbrev counted_of : List ℕ → ℕ → Counted
counted_of t k = counted (heard_of t k) (faulted_of t k)

-- bits a and b, of which c and d matter only where a is set
same_min : (a b c d : ℕ) → a ≤ 1 → a ≡ b → (a ≡ 1 → c ≡ d) → min a c ≡ min b d
same_min zero b c d small e same = omega arith
same_min (suc n) b c d small e same = let s = same (omega arith) in omega arith

module _ (t u : List ℕ) (alike : Alike t u) where
  pub same_faulted : (zone : ℕ) → zone < 256
      → min (heard_zone t zone) (short_faulted t zone) ≡ min (heard_zone u zone) (short_faulted u zone)
  same_faulted zone b =
      same_min (heard_zone t zone) (heard_zone u zone) (short_faulted t zone) (short_faulted u zone) (omega arith)
      (alike.heard zone b)
      (alike.faulted zone b)

  same_group : (i : ℕ) → i < 16 → counted_of t (suc i) ≡ counted_of u (suc i)
  same_group i b =
      ap₂ counted
      (heard_zones t i
      ∙ ap total (same_below _ _ 16 (λ j c. alike.heard (16 * i + j) (omega arith)))
      ∙ sym (heard_zones u i))
      (faulted_zones t i
      ∙ ap total (same_below _ _ 16 (λ j c. same_faulted (16 * i + j) (omega arith)))
      ∙ sym (faulted_zones u i))

  same_groups : {A : Type 0} (f : Counted → A)
      → map (λ i. f (counted_of t (suc i))) (up_to 16) ≡ map (λ i. f (counted_of u (suc i))) (up_to 16)
  same_groups f = same_below _ _ 16 (λ i b. ap f (same_group i b))

  -- every group and the site are the same
  pub same_seen : length t ≡ table_bytes → length u ≡ table_bytes → seen_of t ≡ seen_of u
  same_seen p q =
      simp (seen_whole t p, seen_whole u q, map_map)
      (λ i. record {
        number = 0;
        groups = same_groups (λ c. c) i;
        site = counted (total (same_groups (λ c. c.heard) i)) (total (same_groups (λ c. c.faulted) i));
      })

-- ---- what an answer tells of one group

-- what stands at a place of a list that is made of its places
nth : {A : Type 0} (f : ℕ → A) (n i : ℕ) (d : A) → i < n → get_or (map f (up_to n)) i d ≡ f i
unfolding up_to
nth f zero i d h = absurd (omega arith)
nth f (suc n) i d h =
    let long : length (map f (up_to n)) ≡ n = length-map (up_to n) f ∙ length_up_to n in
    let below : i ≤ n = omega arith in
    rw map_append
    (⊎_elim (λ e. rw e (get_or_at (map f (up_to n)) (f n) [] d n long))
    (λ b. get_or-append (map f (up_to n)) (f n ∷ []) d i (omega arith) ∙ nth f n i d b) (eq-or-lt_of_le below))

-- the group at a place has the counts of its number, one more, and the share made from those
pub group_told : (t : List ℕ) (o : Overview) → overview_values (Ok o) ≡ seen_of t → length t ≡ table_bytes → (i : ℕ) → i < 16
    → (d : Group)
    → group_values (get_or o.groups i d) ≡ counted (heard_of t (suc i)) (faulted_of t (suc i))
group_told t o told whole i b d =
    let groups = simp map_map at (ap (λ (s : Seen). s.groups) (told ∙ seen_whole t whole)) in
    sym (get_or-map group_values o.groups i d)
    ∙ ap (λ (l : List Counted). get_or l i (group_values d)) groups
    ∙ nth (λ j. counted_of t (suc j)) 16 i (group_values d) b

-- ---- the paper's values settle an answer

-- of two shares, "not heard" among them
pub share_settled : (a b : Share) → share_number a ≡ share_number b → a ≡ b
share_settled (IsShare x) (IsShare y) h = cc
share_settled (IsShare x) NotHeard h = cc
share_settled NotHeard (IsShare y) h = cc
share_settled NotHeard NotHeard h = refl

-- of two groups
pub group_settled : (a b : Group) → group_values a ≡ group_values b → a ≡ b
group_settled a b h = λ i. record {
  heard = ap (λ (c : Counted). c.heard) h i;
  faulted = ap (λ (c : Counted). c.faulted) h i;
  share = share_settled a.share b.share (ap (λ (c : Counted). c.share) h) i;
}

-- of two lists, where each element is settled
all_settled : {A B : Type 0} (f : A → B) → ((x y : A) → f x ≡ f y → x ≡ y) → (a b : List A) → map f a ≡ map f b → a ≡ b
all_settled f one [] [] h = refl
all_settled f one [] (y ∷ b) h = cc
all_settled f one (x ∷ a) [] h = cc
all_settled f one (x ∷ a) (y ∷ b) h = ap₂ ◌∷◌ (one x y (cc)) (all_settled f one a b (cc))

-- of two overviews, refused or not
pub overview_settled : (a b : Result Overview Refusal) → overview_values a ≡ overview_values b → a ≡ b
overview_settled (Ok a) (Ok b) h = ap Ok (λ i. record {
  groups = all_settled group_values group_settled a.groups b.groups (ap (λ (s : Seen). s.groups) h) i;
  site = group_settled a.site b.site (ap (λ (s : Seen). s.site) h) i;
})
overview_settled (Ok a) (Err r) h = absurd (number_not_0 r (sym (ap (λ (s : Seen). s.number) h)))
overview_settled (Err r) (Ok b) h = absurd (number_not_0 r (ap (λ (s : Seen). s.number) h))
overview_settled (Err r) (Err q) h = ap Err (number_same r q (ap (λ (s : Seen). s.number) h))
