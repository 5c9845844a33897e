-- Document 01, "The overview". Groups and zones have the paper's numbers here, from 1. Assumes nothing.
use Rattle.std.specs.Prelude.{ℕ, zero, suc, ◌+◌, ◌-◌, ◌*◌, ◌≤◌, ◌<◌, min, ◌≡◌, false, cond, ◌&&◌, ◌↔◌, List, map, T, leb, pos, replicate, Float, Result, Ok, Err}
use Rattle.std.proofs.Math.Option.{Option, none, some}
use Rattle.std.specs.Float.{fin, Format, binary64}
use Rattle.std.specs.Float.Ieee.{round, le, is_nan}
use Rattle.standard.specs.declared.Share.{Share}
use Rattle.standard.specs.declared.Share.TheVariants.{NotHeard}
use Rattle.standard.specs.declared.Share.TheVariants.{Share as IsShare}
use Rattle.standard.specs.declared.Counts.{Counts}
use Rattle.standard.specs.declared.Group.{Group}
use Rattle.standard.specs.declared.Overview.{Overview}
use Rattle.standard.specs.declared.Refusal.{Refusal}
use Rattle.standard.specs.Refusals.{refusal_number}
use Rattle.standard.specs.Words.{up_to, total}
use Rattle.standard.specs.Table.{is_table, heard_zone, short_faulted}

-- zone z of the paper is number z - 1 on the line; 1 where it is heard, and where it is faulted among the heard
abbrev pub heard_one : List ℕ → ℕ → ℕ
heard_one t z = heard_zone t (z - 1)

abbrev pub faulted_one : List ℕ → ℕ → ℕ
faulted_one t z = min (heard_zone t (z - 1)) (short_faulted t (z - 1))

-- "Group k (1 to 16) is zones 16k - 15 to 16k"
abbrev pub zones_of : ℕ → List ℕ
zones_of k = map (λ j. 16 * k - 15 + j) (up_to 16)

abbrev pub group_numbers : List ℕ
group_numbers = map suc (up_to 16)

-- "heard count, faulted count among the heard"
unfoldable pub heard_of : List ℕ → ℕ → ℕ
heard_of t k = total (map (heard_one t) (zones_of k))

unfoldable pub faulted_of : List ℕ → ℕ → ℕ
faulted_of t k = total (map (faulted_one t) (zones_of k))

-- "either a share (faulted divided by heard .., rounded once) or "not heard" when none is", in a format
abbrev pub share_in : Format → ℕ → ℕ → Option Float
share_in format zero faulted = none
share_in format (suc h) faulted = some (round format false faulted (suc h))

-- "in f64"
abbrev pub share_of : ℕ → ℕ → Option Float
share_of zero faulted = none
share_of (suc h) faulted = some (round binary64 false faulted (suc h))

-- a share's number, and none for "not heard"
abbrev pub share_number : Share → Option Float
share_number (IsShare x) = some x
share_number NotHeard = none

pub record Counted : Type 0 where
  pub heard : ℕ
  pub faulted : ℕ
  pub share : Option Float

abbrev pub counted : ℕ → ℕ → Counted
counted heard faulted = record { heard = heard; faulted = faulted; share = share_of heard faulted }

pub record Seen : Type 0 where
  pub number : ℕ
  pub groups : List Counted
  pub site : Counted

-- "A refused call's counts and lengths are 0, its shares "not heard"
abbrev pub nothing_seen : Seen
nothing_seen = record { number = 11; groups = replicate 16 (counted 0 0); site = counted 0 0 }

-- "The site's counts are the sums over groups, its share made from those"
abbrev pub all_seen : List ℕ → Seen
all_seen t = record {
  number = 0;
  groups = map (λ k. counted (heard_of t k) (faulted_of t k)) group_numbers;
  site = counted (total (map (heard_of t) group_numbers)) (total (map (faulted_of t) group_numbers));
}

-- "One call gives all sixteen groups and the site, or refuses with 11"
unfoldable pub seen_of : List ℕ → Seen
seen_of t = cond (is_table t) (all_seen t) nothing_seen

-- ---- a run of zones, which on the line are `from` and those after it

abbrev pub heard_from : List ℕ → ℕ → ℕ → ℕ
heard_from t from n = total (map (λ j. heard_zone t (from + j)) (up_to n))

abbrev pub faulted_from : List ℕ → ℕ → ℕ → ℕ
faulted_from t from n = total (map (λ j. min (heard_zone t (from + j)) (short_faulted t (from + j))) (up_to n))

abbrev pub none_heard : Counts
none_heard = record { heard = 0; faulted = 0 }

-- its counts; none is heard where the table is refused, nor where the run goes beyond the 256 zones
unfoldable pub run_of : List ℕ → ℕ → ℕ → Counts
run_of t from n =
    cond (is_table t && leb (from + n) 256)
    (record { heard = heard_from t from n; faulted = faulted_from t from n })
    none_heard

-- the paper's values of an answer
abbrev pub group_values : Group → Counted
group_values g = record { heard = g.heard; faulted = g.faulted; share = share_number g.share }

abbrev pub overview_values : Result Overview Refusal → Seen
overview_values (Ok o) = record { number = 0; groups = map group_values o.groups; site = group_values o.site }
overview_values (Err refusal) = record { number = refusal_number refusal; groups = replicate 16 (counted 0 0); site = counted 0 0 }

-- ---- what is said of counts and shares

-- counts of zones, at most so many
pub record Bounded (heard faulted most : ℕ) : Type 0 where
  pub among : faulted ≤ heard
  pub few : heard ≤ most

-- two tables that agree on which zones are heard and, of those, on which are faulted
pub record Alike (t u : List ℕ) : Type 0 where
  pub heard : (zone : ℕ) → zone < 256 → heard_zone t zone ≡ heard_zone u zone
  pub faulted : (zone : ℕ) → zone < 256 → heard_zone t zone ≡ 1 → short_faulted t zone ≡ short_faulted u zone

-- 0 and 1 as floats, in either format
abbrev pub float_zero : Float
float_zero = fin false 0 (pos 0)

abbrev pub float_one : Float
float_one = fin false 1 (pos 0)

-- the share x of these counts: 0 exactly when none is faulted, 1 exactly when all heard are, else between them, and a
-- number
pub record Fair (heard faulted : ℕ) (x : Float) : Type 0 where
  pub none_faulted : (x ≡ float_zero) ↔ (faulted ≡ 0)
  pub all_faulted : (x ≡ float_one) ↔ (faulted ≡ heard)
  pub low : T (le float_zero x)
  pub high : T (le x float_one)
  pub number : is_nan x ≡ false
