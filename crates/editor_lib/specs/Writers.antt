-- Who wrote what shows.
use Rattle.std.specs.Prelude.{ℕ, ◌-◌, List, length, slice_get}
use Rattle.std.specs.Option.{option_map_or}
use Rattle.std.specs.List.{flat_map}
use Rattle.element_name.specs.Name.{Name}
use Rattle.edit_frame.specs.Spelling.{short_bytes}
use Rattle.elem_show.specs.Cell.{Cell}
use Rattle.peer_core.specs.Peer.{Peer, cell_at, shown_elements}

-- the site of the name of the last of a cell's letters, or of the element where there are none
abbrev pub writer_by : Name → Cell → ℕ
writer_by element cell = option_map_or (λ letter. letter.0.site) (slice_get cell.letters (length cell.letters - 1)) element.site

-- the site of who wrote what shows of an element
abbrev pub writer_of : Peer → Name → ℕ
writer_of peer element = option_map_or (writer_by element) (cell_at peer element) element.site

-- these sites of the elements that show, in order, two bytes each
abbrev pub writers_bytes : Peer → List ℕ
writers_bytes peer = flat_map (λ element. short_bytes (writer_of peer element)) (shown_elements peer)
