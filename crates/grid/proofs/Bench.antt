-- THE CARDS OF THE MAPS: each header, each level and each call of Cards is what its card says. Assumes nothing.
use mathlib.Core.Path.{◌≡◌, refl}
use mathlib.Core.List.{map, flat_map}
use lib.Ieee.{round, to_bits}
use Rattle.standard.specs.Words.{up_to, total}
use Rattle.standard.specs.Text.{characters}
use Rattle.standard.specs.Messages.{length_for, values_ok}
use Rattle.standard.specs.Table.{fresh, stores_from, writes_of, done_all, apply_refusal, applied_to}
use Rattle.grid.specs.Grid.{block_at, heard_in, faulted_in, row_of, cells_of, header_of, grid_refusal}
use Rattle.grid.specs.Cards.{Mapped, headed_of, headed_as, mapped_of, called_of, called_as, headers, maps, calls}

pub cards_headers : map headed_of headers ≡ map headed_as headers
unfolding header_of characters flat_map
cards_headers = refl

pub cards_maps : map mapped_of maps ≡ map (λ (c : Mapped). c.cells) maps
unfolding cells_of row_of heard_in faulted_in block_at up_to total flat_map round to_bits fresh applied_to apply_refusal done_all
    writes_of stores_from length_for values_ok
cards_maps = refl

pub cards_calls : map called_of calls ≡ map called_as calls
unfolding grid_refusal header_of characters cells_of row_of heard_in faulted_in block_at up_to total flat_map round to_bits fresh
    applied_to apply_refusal done_all writes_of stores_from length_for values_ok
cards_calls = refl
