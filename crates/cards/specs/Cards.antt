-- Document 01, "Bench cards": those marked P, two of ours for the rules of escapes, and what `standard` says of the
-- bytes of each. Assumes nothing.
use Rattle.std.specs.Prelude.{ℕ, suc, ◌+◌, cond, eqb, take, replicate}
use mathlib.Core.List.{List, [], ◌∷◌, ◌++◌, flat_map, map}
use Rattle.standard.specs.declared.Framing.{Framing}
use Rattle.standard.specs.declared.Framing.TheVariants.{Binary, Ascii}
use Rattle.standard.specs.declared.Escapes.{Escapes}
use Rattle.standard.specs.declared.Escapes.TheVariants.{Strict, Lenient}
use Rattle.standard.specs.Words.{up_to}
use Rattle.standard.specs.Stream.{handed_of}
use Rattle.standard.specs.Replies.{reply_of}
use Rattle.standard.specs.Table.{fresh, table_after, heard_zone, zone_short}

-- a card's bytes on the line
pub record Line : Type 0 where
  pub framing : Framing
  pub bytes : List ℕ

-- its verdicts, the reply to each (0: none), and each zone that a fresh table then has heard, by its number from 1,
-- with its short flags
pub record Told : Type 0 where
  pub verdicts : List ℕ
  pub replies : List ℕ
  pub zones : List (ℕ × ℕ)

pub record Card : Type 0 where
  pub line : Line
  pub told : Told

abbrev pub card : Framing → List ℕ → List ℕ → List ℕ → List (ℕ × ℕ) → Card
card f bytes verdicts replies zones = record {
  line = record { framing = f; bytes = bytes };
  told = record { verdicts = verdicts; replies = replies; zones = zones };
}

-- zones 1 to 16, zone 1 faulted
abbrev pub first_group : List (ℕ × ℕ)
first_group = (1, 1) ∷ map (λ z. (z + 2, 0)) (up_to 15)

-- the lines of cards 1 and 5, which stand in card 13 too
abbrev pub line1 : List ℕ
line1 = 0x7E ∷ 0x01 ∷ 0x1D ∷ 0x1E ∷ 0x1F ∷ []

abbrev pub line5 : List ℕ
line5 = 0x7E ∷ 0x0A ∷ 0x05 ∷ 0x00 ∷ 0x01 ∷ 0x00 ∷ 0x00 ∷ 0x00 ∷ 0x00 ∷ 0x00 ∷ 0x00 ∷ 0x00 ∷ 0x10 ∷ 0xA8 ∷ []

-- the cards that hold by both rules of escapes
unfoldable pub marked : List Card
marked =
    -- 1 and 2
    card Binary line1 (0 ∷ []) (0 ∷ []) []
    ∷ card Ascii (0x0A ∷ 0x30 ∷ 0x31 ∷ 0x31 ∷ 0x44 ∷ 0x31 ∷ 0x45 ∷ 0x31 ∷ 0x46 ∷ 0x0D ∷ []) (0 ∷ []) (0 ∷ []) []
    -- 3: verdict 7 and not 5, so the sums are right
    ∷ card Binary (0x7E ∷ 0x07 ∷ 0x84 ∷ 0x09 ∷ 0x7D ∷ 0x5E ∷ 0x10 ∷ 0x58 ∷ 0x01 ∷ 0x00 ∷ 0x7C ∷ 0xD1 ∷ [])
    (7 ∷ []) (0x1E ∷ []) []
    -- 4
    ∷ card Binary (0x7E ∷ 0x08 ∷ 0x84 ∷ 0x09 ∷ 0x7D ∷ 0x5E ∷ 0x10 ∷ 0x58 ∷ 0x00 ∷ 0x01 ∷ 0x00 ∷ 0x7D ∷ 0x5D ∷ 0x56 ∷ [])
    (0 ∷ []) (0x1D ∷ []) ((10, 1) ∷ [])
    -- 5
    ∷ card Binary line5
    (0 ∷ []) (0 ∷ []) first_group
    -- 6
    ∷ card Binary (0x7E ∷ 0x01 ∷ 0x1D ∷ 0x1E ∷ 0x20 ∷ []) (5 ∷ []) (0x1E ∷ []) []
    -- 7
    ∷ card Binary (0x7E ∷ 0x7E ∷ 0x01 ∷ 0x1D ∷ 0x1E ∷ 0x1F ∷ []) (1 ∷ 0 ∷ []) (0x1E ∷ 0 ∷ []) []
    -- 8
    ∷ card Binary (0x7E ∷ 0x01 ∷ 0x7D ∷ 0x7E ∷ 0x01 ∷ 0x1D ∷ 0x1E ∷ 0x1F ∷ []) (1 ∷ 0 ∷ []) (0x1E ∷ 0 ∷ []) []
    -- 9: its two marked cases, the last as document 02, No. 2 has it
    ∷ card Binary (0x7E ∷ 0x00 ∷ []) (4 ∷ []) (0x1E ∷ []) []
    ∷ card Binary (0x7E ∷ 0x13 ∷ []) [] [] []
    -- and what can follow: "an unknown well-formed message rejected with 1Fh", of 13h bytes, of 7Eh, and of FFh
    ∷ card Binary (0x7E ∷ 0x13 ∷ 0x22 ∷ replicate 18 0 ++ (0x35 ∷ 0x06 ∷ [])) (6 ∷ []) (0x1F ∷ []) []
    ∷ card Binary (0x7E ∷ 0x7D ∷ 0x5E ∷ 0x22 ∷ replicate 125 0 ++ (0xA0 ∷ 0x8D ∷ [])) (6 ∷ []) (0x1F ∷ []) []
    ∷ card Ascii
    (0x0A ∷ 0x46 ∷ 0x46 ∷ 0x32 ∷ 0x32 ∷ replicate 508 0x30 ++ (0x32 ∷ 0x32 ∷ 0x30 ∷ 0x30 ∷ 0x0D ∷ []))
    (6 ∷ []) (0x1F ∷ []) []
    ∷ []

-- ours (document 02, No. 5): "A noisy cable turned 5E into 5F", in card 4
abbrev pub noisy : List ℕ
noisy = 0x7E ∷ 0x08 ∷ 0x84 ∷ 0x09 ∷ 0x7D ∷ 0x5F ∷ 0x10 ∷ 0x58 ∷ 0x00 ∷ 0x01 ∷ 0x00 ∷ 0x7D ∷ 0x5D ∷ 0x56 ∷ []

-- and an escape at the length's place that stands for a length of 0
abbrev pub no_length : List ℕ
no_length = 0x7E ∷ 0x7D ∷ 0x20 ∷ []

-- strict, 15 at the sixth byte, and not before it, and 15 "before 4 at the same byte"; by the old rule "until the sum
-- caught it" at the last, and 4
unfoldable pub ours : Escapes → List Card
ours Strict =
    card Binary (take 5 noisy) [] [] []
    ∷ card Binary (take 6 noisy) (15 ∷ []) (0x1E ∷ []) []
    ∷ card Binary noisy (15 ∷ []) (0x1E ∷ []) []
    ∷ card Binary no_length (15 ∷ []) (0x1E ∷ []) []
    ∷ []
ours Lenient =
    card Binary (take 13 noisy) [] [] []
    ∷ card Binary noisy (5 ∷ []) (0x1E ∷ []) []
    ∷ card Binary no_length (4 ∷ []) (0x1E ∷ []) []
    ∷ []

abbrev pub cards : Escapes → List Card
cards rule = marked ++ ours rule

-- the heard zones of a table, with their short flags
abbrev pub heard_with : List ℕ → List (ℕ × ℕ)
heard_with t = flat_map (λ z. cond (eqb (heard_zone t z) 1) ((suc z, zone_short t z) ∷ []) []) (up_to 256)

-- what the definitions say of a line, by a rule of escapes
abbrev pub told_of : Escapes → Line → Told
told_of rule l =
    let hands = handed_of rule l.framing l.bytes in
    record {
      verdicts = map (λ h. h.verdict) hands;
      replies = map (λ h. reply_of h.verdict h.type_byte_of) hands;
      zones = heard_with (table_after fresh hands);
    }
