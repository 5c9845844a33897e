-- What the private functions that make room say between them: what later records write is remembered in cells, and the
-- records that stay by the places of their trailers. Assumes nothing.
use Rattle.std.specs.Prelude.{ℕ, suc, ◌+◌, ◌-◌, ◌≤◌, ◌<◌, Bool, cond, List, [], ◌∷◌, ◌++◌, eqb, length, get_or, take, drop, replicate, set}
use Rattle.std.specs.List.{list_any}
use Rattle.std.proofs.Math.Option
use Rattle.standard.specs.Words.{byte, laid}
use Rattle.standard.specs.Messages.{number_of}
use Rattle.station_log.specs.Log.{joined, records_of}
use Rattle.station_log.specs.Room.{needless}

-- ---- cells: 256 zones' own bytes, 256 zones' short flags, eight partitions, all partitions' short bytes, the system

abbrev pub cells_most : ℕ
cells_most = 522

-- some of them, one after another
pub record Cells : Type 0 where
  pub first : ℕ
  pub count : ℕ

-- those of which a record needs one for itself, to stay
unfoldable pub cells_of : List ℕ → Cells
cells_of m =
    cond (eqb (number_of (byte 1 m)) 0x04) (record { first = byte 2 m; count = 1 })
    (cond (eqb (number_of (byte 1 m)) 0x05) (record { first = 256 + byte 2 m; count = 16 })
    (cond (eqb (number_of (byte 1 m)) 0x06) (record { first = 512 + byte 2 m; count = 1 })
    (cond (eqb (number_of (byte 1 m)) 0x07) (record { first = 520; count = 1 })
    (record { first = 521; count = 1 }))))

-- whether one of some cells is not written yet
unfoldable pub any_zero : List ℕ → Bool
any_zero cells = list_any (λ c. eqb c 0) cells

unfoldable pub is_new : List ℕ → List ℕ → Bool
is_new cells m = any_zero (take (cells_of m).count (drop (cells_of m).first cells))

-- the cells with those of a record written
unfoldable pub noted : List ℕ → List ℕ → List ℕ
noted cells m =
    cond (eqb (number_of (byte 1 m)) 0x04)
    (set (laid cells (cells_of m).first (replicate (cells_of m).count 1)) (256 + byte 2 m) 1)
    (laid cells (cells_of m).first (replicate (cells_of m).count 1))

-- ---- places of trailers, the oldest first

-- of the records that stay
unfoldable pub places_of : List (List ℕ) → List (List ℕ) → List ℕ
places_of later [] = []
places_of later (m ∷ older) =
    places_of (m ∷ later) older ++ cond (needless later m) [] ((length (joined older) + length m) ∷ [])

unfoldable pub places_in : List ℕ → List ℕ
places_in log = places_of [] (Option.get_or (records_of log) [])

-- the record whose trailer stands at a place, and those at some places, one after another
abbrev pub record_at : List ℕ → ℕ → List ℕ
record_at log last = take (get_or log last 0 + 1) (drop (last - get_or log last 0) log)

unfoldable pub records_at : List ℕ → List ℕ → List ℕ
records_at log [] = []
records_at log (last ∷ places) = record_at log last ++ records_at log places

-- each stands within the log, behind the one before
unfoldable pub Apart : List ℕ → ℕ → List ℕ → Type 0
Apart log low [] = Unit {0}
Apart log low (last ∷ places) =
    (last < length log) × (low + get_or log last 0 ≤ last) × Apart log (suc last) places
