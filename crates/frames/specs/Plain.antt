-- The bytes of a frame that stand plainly on the line, and those that an open frame takes at once. That a reader which
-- steps through them comes to the same is a law of the crate reader. Assumes nothing.
use Rattle.std.specs.Prelude.{◌≡◌, ℕ, ◌+◌, ◌-◌, ◌*◌, Bool, cond, ◌&&◌, ◌||◌, List, [], ◌∷◌, ◌++◌, length, take, nat_le, nat_lt, slice_index}
use Rattle.std.specs.Prelude.{Option, Some, None}
use Rattle.std.proofs.Math.Option.{Option as Maybe, none, some}
use Rattle.standard.specs.declared.Framing.{Framing}
use Rattle.standard.specs.declared.Framing.TheVariants.{Binary, Ascii}
use Rattle.standard.specs.Words.{laid}
use Rattle.standard.specs.Messages.{longest, length_ok}
use Rattle.standard.specs.Framing.{value_of, digits_of, pairs}
use Rattle.frames.specs.declared.Taken.{Taken}

-- a digit's value, or 16 where there is none
abbrev pub or_none : Maybe ℕ → ℕ
or_none none = 16
or_none (some d) = d

abbrev pub digit_in : ℕ → ℕ
digit_in c = or_none (value_of c)

-- the same as code says it
abbrev pub said_value : Maybe ℕ → Option ℕ
said_value none = None
said_value (some d) = Some d

abbrev pub digit_of : ℕ → Option ℕ
digit_of c = said_value (value_of c)

-- the number of what is said, which is `digit_in`
abbrev pub number_of : Option ℕ → ℕ
number_of None = 16
number_of (Some d) = d

-- neither 7Dh nor 7Eh
abbrev pub stands : ℕ → Bool
stands b = nat_lt b 0x7D || nat_lt 0x7E b

-- the bytes before the first that is not sent as itself
unfoldable pub standing : List ℕ → List ℕ
standing [] = []
standing (b ∷ bs) = cond (stands b) (b ∷ standing bs) []

-- the bytes that come plainly: in binary those that stand for themselves, in ASCII those of two digits each
abbrev pub plain_of : Framing → List ℕ → List ℕ
plain_of Binary bytes = standing bytes
plain_of Ascii bytes = pairs (digits_of bytes)

-- how many bytes of the line n of them are
abbrev pub span : Framing → ℕ → ℕ
span Binary n = n
span Ascii n = 2 * n

-- how many bytes a frame has beyond its length L before the byte that decides: "binary at the last sum byte, ASCII at
-- the stop place"
abbrev pub beyond : Framing → ℕ
beyond Binary = 2
beyond Ascii = 3

-- the length byte of a frame of which n bytes are held: the first of them, or else the first that comes plainly
abbrev pub length_of : ℕ → List ℕ → List ℕ → ℕ
length_of n frame plain = slice_index (take n frame ++ plain) 0

-- an array that has room for the longest frame, with n bytes held
abbrev pub roomy : ℕ → List ℕ → Bool
roomy n frame = nat_le n (longest + 3) && nat_le (longest + 3) (length frame)

-- the bytes that an open frame takes at once: those that come plainly, up to the byte that decides
unfoldable pub growth : Framing → ℕ → List ℕ → List ℕ → List ℕ
growth f n frame bytes =
    let plain = plain_of f bytes in
    let L = length_of n frame plain in
    cond (roomy n frame && length_ok L) (take (L + beyond f - n) plain) []

-- `take_plain` says how many these are and how many bytes of the line, and lays them after those that are held
pub record TakesPlain (f : Framing) (n : ℕ) (frame bytes : List ℕ) (taken : Taken) (after : List ℕ) : Type 0 where
  pub count : taken.count ≡ length (growth f n frame bytes)
  pub used : taken.used ≡ span f (length (growth f n frame bytes))
  pub lays : after ≡ laid frame n (growth f n frame bytes)
