-- What include/nx584.h says of the numbers, as laws of the definitions. Assumes nothing.
use Prim.Native.Nat.{ℕ, zero, suc, ◌+◌, ◌≤◌, ◌<◌}
use native.Mathlib.Nat.{zero-add}
use native.Mathlib.Numerals.{add-one}
use native.Mathlib.Omega.{arith}
use mathlib.Core.Path.{◌≡◌, refl, sym, ap, ap₂, ◌∙◌}
use mathlib.Core.Bool.{Bool, true, false, cond}
use mathlib.Core.Option.{none, some}
use mathlib.Core.List.{List, [], ◌∷◌, ◌++◌, map}
use lib.Dec.{eqb}
use lib.Ieee.{nan}
use lib.ListN.{length, get_or, take, drop, replicate, length-drop}
use lib.Seq.{take-append_seam, drop-append_seam, take-suc, take_all, drop-cons, get_or-drop, length-take-le}
use borrow.Author.Tests.{eq-eqb, ne_eqb, le-leb, lt-leb}
use borrow.Fn.Kinds.{Dens, ended_of, res_t}
use contract.Lifetimes.{Lfts}
use denote.Triple.Clauses.{AtExit}
use Rattle.standard.specs.declared.Framing.TheVariants.{Binary, Ascii}
use Rattle.standard.specs.declared.Escapes.TheVariants.{Strict, Lenient}
use Rattle.standard.specs.Refusals.{Written, written_in}
use Rattle.standard.proofs.Sheet.{written_same}
use Rattle.standard.specs.Messages.{longest}
use Rattle.standard.specs.Replies.{reply_of}
use Rattle.standard.specs.Table.{table_bytes, is_table, table_after, zone_place, partition_place}
use Rattle.standard.specs.Words.{byte, total}
use Rattle.standard.specs.Overview.{Counted, Seen, counted, group_numbers, heard_of, faulted_of, all_seen, nothing_seen}
use Rattle.standard.specs.Overview.{seen_of}
use Rattle.standard.specs.Questions.{table_refusal, partition_refusal, partition_part, system_part}
use Rattle.standard.specs.Writer.{written_of}
use Rattle.standard.proofs.Questions.{whole_asked}
use Rattle.standard.proofs.Refusals.{of_the_writer, refusal_numbers}
use Rattle.reader.specs.declared.Mode.TheVariants.{Open}
use Rattle.reader.specs.Step.{step_of}
use Rattle.reader.specs.Read.{scan_of, read_of}
use Rattle.commands.specs.declared.Ended.TheVariants.{GivenUp, Acknowledged, Failed, Rejected, Replied}
use Rattle.std.specs.Prelude.{Some, None, Result}
use Rattle.standard.specs.declared.Refusal.{Refusal}
use Rattle.commands.specs.declared.Sending.{Sending}
use Rattle.commands.specs.Commands.{ended_number, answer_of}
use Rattle.commands.proofs.Endings.{answer_one}
use Rattle.nx584.specs.declared.CReader.{CReader}
use Rattle.nx584.specs.declared.CReading.{CReading}
use Rattle.nx584.specs.declared.CWritten.{CWritten}
use Rattle.nx584.specs.declared.CGroup.{CGroup}
use Rattle.nx584.specs.declared.COverview.{COverview}
use Rattle.nx584.specs.Boundary.{framing_for, escapes_for, mode_for, reader_for, c_fresh, sound_c, padded, CGiven}
use Rattle.nx584.specs.Boundary.{c_refused, c_took, c_read, c_reading}
use Rattle.nx584.specs.Boundary.{c_heard, with_reply, c_hearing, c_left, c_written, c_group, c_overview}
use Rattle.nx584.specs.declared.CSending.{CSending}
use Rattle.nx584.specs.Line.{c_answer}
use Rattle.nx584.specs.Records.{c_zone, c_partition, c_system}
use Rattle.nx584.proofs.InC.{read_refused, heard_refused}
use Rattle.nx584.proofs.Parts.{system_sized}
use Rattle.nx584.proofs.nx584_write.Kinds as write-kinds
use Rattle.nx584.proofs.nx584_write.Reads as write

-- ---- the reader's numbers

-- framing 0 is binary, any other ASCII
pub binary_is_0 : framing_for 0 ≡ Binary
binary_is_0 = refl

pub ascii_is_any_other : (n : ℕ) → (n ≡ 0 → ⊥) → framing_for n ≡ Ascii
ascii_is_any_other n h = rw (ne_eqb n 0 h)

-- escapes 0 is strict, any other the old rule
pub strict_is_0 : escapes_for 0 ≡ Strict
strict_is_0 = refl

pub lenient_is_any_other : (n : ℕ) → (n ≡ 0 → ⊥) → escapes_for n ≡ Lenient
lenient_is_any_other n h = rw (ne_eqb n 0 h)

-- a reader in numbers, as a strict one is made
abbrev numbered : ℕ → ℕ → ℕ → ℕ → List ℕ → CReader
numbered framing mode digit held bytes =
    record { framing = framing; mode = mode; digit = digit; held = held; bytes = bytes; escapes = 0 }

-- the reader after a fresh one has read some bytes
abbrev after : ℕ → List ℕ → CReader
after framing bs = (c_reading (c_read (c_fresh Strict framing) bs)).reader

abbrev zeros : List ℕ
zeros = replicate (longest + 3) 0

-- 0 skipping, 1 in a frame, 2 after a 7Dh
pub fresh_skips : c_fresh Strict 0 ≡ numbered 0 0 0 0 zeros
fresh_skips = refl

pub fresh_skips_ascii : c_fresh Strict 1 ≡ numbered 1 0 0 0 zeros
fresh_skips_ascii = refl

-- escapes 1 is what a lenient one is made with
pub fresh_lenient_skips : c_fresh Lenient 0
    ≡ record { framing = 0; mode = 0; digit = 0; held = 0; bytes = zeros; escapes = 1 }
fresh_lenient_skips = refl

pub start_opens : after 0 (0x7E ∷ []) ≡ numbered 0 1 0 0 zeros
unfolding c_read sound_c read_of scan_of step_of
start_opens = refl

pub start_opens_ascii : after 1 (0x0A ∷ []) ≡ numbered 1 1 0 0 zeros
unfolding c_read sound_c read_of scan_of step_of
start_opens_ascii = refl

pub escape_pends : after 0 (0x7E ∷ 0x7D ∷ []) ≡ numbered 0 2 0 0 zeros
unfolding c_read sound_c read_of scan_of step_of
escape_pends = refl

-- 3 a digit pending, which is in digit
pub digit_pends : after 1 (0x0A ∷ 0x30 ∷ []) ≡ numbered 1 3 0 0 zeros
unfolding c_read sound_c read_of scan_of step_of
digit_pends = refl

pub digit_is_kept : after 1 (0x0A ∷ 0x42 ∷ []) ≡ numbered 1 3 11 0 zeros
unfolding c_read sound_c read_of scan_of step_of
digit_is_kept = refl

-- held bytes stand at the beginning
pub byte_is_held : after 0 (0x7E ∷ 8 ∷ []) ≡ numbered 0 1 0 1 (8 ∷ replicate (longest + 2) 0)
unfolding c_read sound_c read_of scan_of step_of
byte_is_held = refl

-- 15 at the byte after a 7Dh that needs none, and nothing of the two is held; the old rule takes it
pub bad_escape_is_15 : c_reading (c_read (c_fresh Strict 0) (0x7E ∷ 8 ∷ 0x7D ∷ 0x5F ∷ 1 ∷ []))
    ≡ record {
      reader = numbered 0 0 0 0 (8 ∷ replicate (longest + 2) 0);
      used = 4;
      verdict = 15;
      type_byte = 0;
      length = 0;
      message = replicate longest 0;
    }
unfolding c_read sound_c read_of scan_of step_of
bad_escape_is_15 = refl

pub lenient_takes_it : (c_reading (c_read (c_fresh Lenient 0) (0x7E ∷ 8 ∷ 0x7D ∷ 0x5F ∷ []))).reader.held ≡ 2
unfolding c_read sound_c read_of scan_of step_of
lenient_takes_it = refl

-- every call hands the number of the rule back as it was
pub escapes_stay : (c : CReader) (t bs : List ℕ)
    → ((c_reading (c_read c bs)).reader.escapes ≡ c.escapes) × ((c_hearing (c_heard c t bs)).reader.escapes ≡ c.escapes)
unfolding c_read c_heard
escapes_stay c t bs = (of_read (sound_c c), of_hear (is_table t) (sound_c c))
  where
    of_read : (s : Bool)
        → (cond s (c_took c.escapes (read_of (reader_for c) bs)) (c_refused c 12)).reader.escapes ≡ c.escapes
    of_read true = refl
    of_read false = refl

    of_hear : (t s : Bool)
        → (cond t (cond s (c_took c.escapes (read_of (reader_for c) bs)) (c_refused c 12))
        (c_refused c 11)).reader.escapes
        ≡ c.escapes
    of_hear true true = refl
    of_hear true false = refl
    of_hear false s = refl

-- ---- an answer

-- no message is an array of zeros, and a message stands before zeros
pub padded_front : (m : List ℕ) → take (length m) (padded m) ≡ m
padded_front m = take-append_seam m (drop (0 + length m) (replicate longest 0))

pub padded_zeros : (m : List ℕ) → drop (length m) (padded m) ≡ drop (length m) (replicate longest 0)
padded_zeros m =
    drop-append_seam m (drop (0 + length m) (replicate longest 0))
    ∙ ap (λ n. drop n (replicate longest 0)) (zero-add (length m))

-- no verdict: 255, and all else zero
pub silent_is_255 : (c : CReader) (used : ℕ)
    → c_reading (record { reader = c; used = used; said = [] })
    ≡ record { reader = c; used = used; verdict = 255; type_byte = 0; length = 0; message = replicate longest 0 }
silent_is_255 c used = refl

-- an answer that refuses: the reader as it was, no byte used, and all else zero
abbrev refusing : CReader → ℕ → CReading
refusing c number =
    record { reader = c; used = 0; verdict = number; type_byte = 0; length = 0; message = replicate longest 0 }

pub unsound_is_12 : (c : CReader) (bs : List ℕ) → sound_c c ≡ false → c_reading (c_read c bs) ≡ refusing c 12
unsound_is_12 c bs h = ap c_reading (read_refused c bs h)

-- the table is asked first: 11, no reply, and the table as it was
pub no_table_is_11 : (c : CReader) (t bs : List ℕ) → (length t ≡ table_bytes → ⊥)
    → (c_hearing (c_heard c t bs)
    ≡ with_reply (refusing c 11) 0)
    × (c_left c t bs ≡ t)
unfolding table_after reply_of
no_table_is_11 c t bs h =
    (ap c_hearing (heard_refused c t bs h), ap (λ (a : CGiven). table_after t a.said) (heard_refused c t bs h))

-- ---- the writer's answer

-- C's numbers tell the paper's
pub written_once : (w v : Written) → c_written w ≡ c_written v → w ≡ v
written_once w v e = ap (λ (c : CWritten). record { number = c.number; length = c.length }) e

-- and the answer
pub written_said_once : (x y : Result ℕ Refusal) → c_written (written_in x) ≡ c_written (written_in y) → x ≡ y
written_said_once x y e = written_same x y (written_once (written_in x) (written_in y) e)

-- every answer has one of the numbers 0, 4, 6, 7, 8 and 9
pub nx584_write_numbers : (κs : Lfts 2) (a : Dens κs write-kinds.ps)
    (e : AtExit (ended_of 2 write-kinds.ps write-kinds.r) κs)
    (x : (res_t write-kinds.r κs).Denot) → write.Post κs a x e → of_the_writer x.number ≡ true
unfolding written_of
nx584_write_numbers κs a e x p = ap (λ (c : CWritten). of_the_writer c.number) p.says ∙ refusal_numbers _ _ _ _

-- ---- the overview

-- known is 1 exactly if heard > 0
pub known_heard : (g : Counted) → 0 < g.heard → (c_group g).known ≡ 1
known_heard g h = rw (ne_eqb g.heard 0 (λ e. omega arith))

pub unknown_unheard : (g : Counted) → g.heard ≡ 0 → (c_group g).known ≡ 0
unknown_unheard g h = rw (eq-eqb g.heard 0 h)

-- where it is 0 the share is a NaN
pub unheard_nan : (faulted : ℕ) → (c_group (counted 0 faulted)).share ≡ nan
unheard_nan faulted = refl

-- a group's counts and share are given back by the numbers
abbrev group_back : CGroup → Counted
group_back g = record {
  heard = g.heard;
  faulted = g.faulted;
  share = cond (eqb g.known 1) (some g.share) none;
}

pub group_back_lem : (heard faulted : ℕ) → group_back (c_group (counted heard faulted)) ≡ counted heard faulted
group_back_lem zero faulted = refl
group_back_lem (suc n) faulted = rw (ne_eqb (suc n) 0 (λ e. omega arith))

-- and so is an overview
abbrev seen_back : COverview → Seen
seen_back o = record { number = o.number; groups = map group_back o.groups; site = group_back o.site }

groups_back : (heard faulted : ℕ → ℕ) (ks : List ℕ)
    → map group_back (map c_group (map (λ k. counted (heard k) (faulted k)) ks))
    ≡ map (λ k. counted (heard k) (faulted k)) ks
groups_back heard faulted [] = refl
groups_back heard faulted (k ∷ ks) = ap₂ ◌∷◌ (group_back_lem (heard k) (faulted k)) (groups_back heard faulted ks)

abbrev seen : ℕ → List Counted → Counted → Seen
seen number groups site = record { number = number; groups = groups; site = site }

pub seen_back_lem : (t : List ℕ) → seen_back (c_overview (seen_of t)) ≡ seen_of t
unfolding seen_of
seen_back_lem t = go (is_table t)
  where
    go : (ok : Bool) → seen_back (c_overview (cond ok (all_seen t) nothing_seen)) ≡ cond ok (all_seen t) nothing_seen
    go true =
        ap₂ (seen 0) (groups_back (heard_of t) (faulted_of t) group_numbers)
        (group_back_lem (total (map (heard_of t) group_numbers)) (total (map (faulted_of t) group_numbers)))
    go false = refl

-- ---- the table's records

-- a question that is refused: its number, and all else zero
pub zone_refused : (t : List ℕ) (zone : ℕ) → (length t ≡ table_bytes → ⊥)
    → c_zone t zone ≡ record { number = 11; mark = 0; flags = 0; bytes = replicate 6 0 }
unfolding table_refusal
zone_refused t zone h = rw (ne_eqb (length t) table_bytes h)

pub system_refused : (t : List ℕ) → (length t ≡ table_bytes → ⊥)
    → c_system t ≡ record { number = 11; mark = 0; bytes = replicate 11 0 }
unfolding table_refusal
system_refused t h = rw (ne_eqb (length t) table_bytes h)

pub partition_no_table : (t : List ℕ) (partition : ℕ) → (length t ≡ table_bytes → ⊥)
    → c_partition t partition ≡ record { number = 11; mark = 0; flags = 0; bytes = replicate 7 0 }
unfolding partition_refusal
partition_no_table t partition h = rw (ne_eqb (length t) table_bytes h)

pub partition_above_7 : (t : List ℕ) (partition : ℕ) → length t ≡ table_bytes → 7 < partition
    → c_partition t partition ≡ record { number = 8; mark = 0; flags = 0; bytes = replicate 7 0 }
unfolding partition_refusal
partition_above_7 t partition h k = rw (eq-eqb (length t) table_bytes h, lt-leb partition 7 k)

-- mark, bytes and flags are a zone's eight bytes, a partition's nine, and the system's twelve, in their order
module _ (t : List ℕ) (h : length t ≡ table_bytes) where
  eight : (place : ℕ) → place + 8 ≤ table_bytes
      → get_or t place 0 ∷ take 6 (drop (place + 1) t) ++ (get_or t (place + 7) 0 ∷ []) ≡ take 8 (drop place t)
  eight place k =
      let rest = drop (suc place) t in
      let last : get_or rest 6 0 ≡ get_or t (place + 7) 0 = get_or-drop (suc place) t 6 0
      ∙ ap (λ n. get_or t n 0) (omega arith) in
      rw (add-one place, sym last)
      (ap (λ l. get_or t place 0 ∷ l) (sym (take-suc rest 6 0 (omega (arith, length-drop (suc place) t))))
      ∙ ap (take 8) (sym (drop-cons t place 0 (omega arith))))

  pub zone_bytes : (zone : ℕ) → zone < 256
      → (c_zone t zone).mark ∷ (c_zone t zone).bytes ++ ((c_zone t zone).flags ∷ []) ≡ take 8 (drop (zone_place zone) t)
  zone_bytes zone k = rw (whole_asked t h) (eight (zone_place zone) (omega arith))

  nine : (l : List ℕ) → length l ≡ 9 → byte 1 l ∷ take 7 (drop 1 l) ++ (byte 9 l ∷ []) ≡ l
  nine [] e = absurd (omega arith)
  nine (x ∷ l) e = ap (λ r. x ∷ r) (sym (take-suc l 7 0 (omega arith)) ∙ take_all 8 l (omega arith))

  pub partition_bytes : (partition : ℕ) → partition ≤ 7
      → (c_partition t partition).mark ∷ (c_partition t partition).bytes ++ ((c_partition t partition).flags ∷ [])
      ≡ partition_part t partition
  unfolding partition_refusal
  partition_bytes partition k =
      rw (eq-eqb (length t) table_bytes h, le-leb partition 7 k)
      (nine (partition_part t partition)
      (length-take-le 9 (drop (partition_place partition) t) (omega (arith, length-drop (partition_place partition) t))))

  headed : (l : List ℕ) → 0 < length l → byte 1 l ∷ drop 1 l ≡ l
  headed [] e = absurd (omega arith)
  headed (x ∷ l) e = refl

  pub system_bytes : (c_system t).mark ∷ (c_system t).bytes ≡ system_part t
  system_bytes =
      let size = system_sized t (whole_asked t h) in
      rw (whole_asked t h) (headed (system_part t) (omega arith))

-- ---- numbers that no call answers

-- a mode above 3 is unsound, and so is mode 3 with a digit above 15, in both framings
pub mode_above_3 : (c : CReader) → 3 < c.mode → sound_c c ≡ false
unfolding sound_c
mode_above_3 c h = rw (lt-leb c.mode 3 h)

pub digit_above_15 : (c : CReader) → c.mode ≡ 3 → 15 < c.digit → sound_c c ≡ false
unfolding sound_c
digit_above_15 c e h = rw (e, lt-leb c.digit 15 h)

-- mode 2 in ASCII and mode 3 in binary read as mode 1
pub escape_in_ascii : (digit : ℕ) → mode_for Ascii 2 digit ≡ Open Ascii
escape_in_ascii digit = refl

pub digit_in_binary : (digit : ℕ) → mode_for Binary 3 digit ≡ Open Binary
digit_in_binary digit = refl

-- ---- the line of commands

-- how the front ended: 0 not, 1 given up, else the number of the message that ended it
pub not_ended_is_0 : ended_number None ≡ 0
not_ended_is_0 = refl

pub given_up_is_1 : ended_number (Some GivenUp) ≡ 1
given_up_is_1 = refl

pub acknowledged_is_1d : ended_number (Some Acknowledged) ≡ 0x1D
acknowledged_is_1d = refl

pub failed_is_1c : ended_number (Some Failed) ≡ 0x1C
failed_is_1c = refl

pub rejected_is_1f : ended_number (Some Rejected) ≡ 0x1F
rejected_is_1f = refl

pub replied_is_12 : ended_number (Some Replied) ≡ 0x12
replied_is_12 = refl

-- the numbers lose nothing: two answers with the same are one
pub sending_once : (c : CSending) (r s : Result Sending Refusal) → c_answer c ≡ answer_of r → c_answer c ≡ answer_of s → r ≡ s
sending_once c r s p q = answer_one (sym p ∙ q)
