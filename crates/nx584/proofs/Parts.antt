-- A part of a table that a question gave, laid over zeros: the part, or zeros where the question was refused. Assumes
-- nothing.
use Rattle.std.specs.Prelude.{Result, Ok, Err}
use Rattle.std.specs.Result.{result_unwrap_or}
use Rattle.standard.specs.declared.Refusal.{Refusal}
use Rattle.standard.specs.Refusals.{value_in}
use Prim.Native.Nat.{ℕ, ◌+◌, ◌≤◌, ◌<◌}
use native.Mathlib.Omega.{arith}
use mathlib.Core.Path.{◌≡◌, refl, ap, ◌∙◌}
use mathlib.Core.Bool.{Bool, true, false, cond}
use mathlib.Core.List.{List, [], ◌++◌, append-nil}
use lib.Dec.{eqb}
use lib.ListN.{length, take, drop, replicate, length-replicate, length-drop, drop_of_length-le}
use lib.Seq.{length-take-le}
use borrow.Author.Tests.{eqb-true}
use Rattle.standard.specs.Words.{byte, laid}
use Rattle.standard.specs.Table.{zone_place, partition_place, system_place}
use Rattle.standard.specs.Questions.{table_refusal, partition_refusal, zone_part, partition_part, system_part}
use Rattle.standard.proofs.Questions.{asked_whole, asked_partition}
use Rattle.nx584.specs.declared.CPartition.{CPartition}
use Rattle.nx584.specs.declared.CSystem.{CSystem}
use Rattle.nx584.specs.Records.{part_unless, c_partition, c_system}

-- as many bytes as there are zeros
laid_whole : (part : List ℕ) (n : ℕ) → length part ≡ n → laid (replicate n 0) 0 part ≡ part
laid_whole part n h =
    ap (λ l. part ++ l) (drop_of_length-le (replicate n 0) (rw length-replicate (omega arith))) ∙ append-nil part

-- a part of known size, or none
module _ (refusal size : ℕ) (value part : List ℕ) (sized : refusal ≡ 0 → length value ≡ size)
    (given : part ≡ cond (eqb refusal 0) value []) where
  pub part_fits : length part ≤ size
  part_fits = go (eqb refusal 0) refl
    where
      go : (t : Bool) → eqb refusal 0 ≡ t → length part ≤ size
      go true e = let h = sized (eqb-true refusal 0 e) in rw (given, e) (omega arith)
      go false e = rw (given, e) (omega arith)

  -- as an array is made of it
  pub part_laid : {array : List ℕ} → array ≡ laid (replicate size 0) 0 part → array ≡ part_unless refusal size value
  part_laid {array} h = go (eqb refusal 0) refl
    where
      go : (t : Bool) → eqb refusal 0 ≡ t → array ≡ part_unless refusal size value
      go true e = rw e (h ∙ ap (λ p. laid (replicate size 0) 0 p) (rw e at given) ∙ laid_whole value size (sized (eqb-true refusal 0 e)))
      go false e = rw e (h ∙ ap (λ p. laid (replicate size 0) 0 p) (rw e at given))

  unless_sized : length (part_unless refusal size value) ≡ size
  unless_sized = go (eqb refusal 0) refl
    where
      go : (t : Bool) → eqb refusal 0 ≡ t → length (part_unless refusal size value) ≡ size
      go true e = rw e (sized (eqb-true refusal 0 e))
      go false e = rw e (length-replicate size 0)

  pub part_size : {array : List ℕ} → array ≡ part_unless refusal size value → length array ≡ size
  part_size e = ap length e ∙ unless_sized

  -- and an array of all but its first byte, or fewer
  pub part_within : (n : ℕ) {array bytes : List ℕ} → n + 1 ≤ size → array ≡ part_unless refusal size value
      → bytes ≡ laid (replicate n 0) 0 (take n (drop 1 array)) → bytes ≡ take n (drop 1 array)
  part_within n {array} fits e h =
      let long : length array ≡ size = part_size e in
      h ∙ laid_whole (take n (drop 1 array)) n (length-take-le n (drop 1 array) (omega (arith, length-drop 1 array, long)))

-- ---- what is told of a record that was copied

abbrev pub told_partition : ℕ → List ℕ → CPartition
told_partition number nine =
    record { number = number; mark = byte 1 nine; flags = byte 9 nine; bytes = take 7 (drop 1 nine) }

pub partition_told : (t : List ℕ) (partition : ℕ)
    → (let refusal = partition_refusal t partition in
    told_partition refusal (part_unless refusal 9 (partition_part t partition)))
    ≡ c_partition t partition
partition_told t partition = go (eqb (partition_refusal t partition) 0)
  where
    part : List ℕ
    part = partition_part t partition

    go : (ok : Bool) → told_partition (partition_refusal t partition) (cond ok part (replicate 9 0))
        ≡ record {
          number = partition_refusal t partition;
          mark = cond ok (byte 1 part) 0;
          flags = cond ok (byte 9 part) 0;
          bytes = cond ok (take 7 (drop 1 part)) (replicate 7 0);
        }
    go true = refl
    go false = refl

abbrev pub told_system : ℕ → List ℕ → CSystem
told_system number twelve = record { number = number; mark = byte 1 twelve; bytes = drop 1 twelve }

pub system_told : (t : List ℕ) → told_system (table_refusal t) (part_unless (table_refusal t) 12 (system_part t)) ≡ c_system t
system_told t = go (eqb (table_refusal t) 0)
  where
    part : List ℕ
    part = system_part t

    go : (ok : Bool) → told_system (table_refusal t) (cond ok part (replicate 12 0))
        ≡ record {
          number = table_refusal t;
          mark = cond ok (byte 1 part) 0;
          bytes = cond ok (drop 1 part) (replicate 11 0);
        }
    go true = refl
    go false = refl

-- ---- the sizes of the parts

pub zone_sized : (t : List ℕ) (zone : ℕ) → zone < 256 → table_refusal t ≡ 0 → length (zone_part t zone) ≡ 6
zone_sized t zone h z =
    length-take-le 6 (drop (zone_place zone + 1) t) (omega (arith, length-drop (zone_place zone + 1) t, asked_whole t z))

pub partition_sized : (t : List ℕ) (partition : ℕ) → partition_refusal t partition ≡ 0
    → length (partition_part t partition) ≡ 9
partition_sized t partition z =
    let h = asked_partition t partition z in
    let rest = drop (partition_place partition) t in
    length-take-le 9 rest (omega (arith, length-drop (partition_place partition) t, h.0, h.1))

pub system_sized : (t : List ℕ) → table_refusal t ≡ 0 → length (system_part t) ≡ 12
system_sized t z =
    length-take-le 12 (drop system_place t) (omega (arith, length-drop system_place t, asked_whole t z))

-- a refused question's value is 0
pub value_or : (r : Result ℕ Refusal) → result_unwrap_or r 0 ≡ value_in 0 r
value_or (Ok value) = refl
value_or (Err refusal) = refl
