-- Rows: what is kept of a request, and what is counted of the element that it makes.
use Rattle.std.specs.Prelude.{◌≡◌, Bool, true, false, not, ◌&&◌, ◌||◌, List, [], Option, Some, option_map, option_and_then, map, is_some, if◌then◌else◌}
use Rattle.std.specs.List.{list_all}
use Rattle.std.specs.Map.{lookup, values_of}
use Rattle.std.specs.BTreeMap.{is_at}
use Rattle.element_name.specs.Name.{Name, name_eq, are_distinct}
use Rattle.element_name.specs.Named.{name_cmp}
use Rattle.coop_request.specs.Edit.{is_insert}
use Rattle.coop_request.specs.Request.{Request, element_of}
use Rattle.elem_show.specs.Cell.{Cell, cell_by, own_of, cell_of}
use Rattle.elem_show.specs.Counting.{HasRoomFor, cell_with, cell_less}
use Rattle.request_state.specs.declared.kept.Kept.{Kept}
use Rattle.request_state.specs.declared.row.Row.{Row}
use Rattle.request_state.specs.declared.state.State.{State}
use Rattle.request_state.specs.declared.lines.Place.{Place}
use Rattle.request_state.specs.State.{is_invalid}
use Rattle.request_state.specs.Table.{requests_kept, counted_of}
use Rattle.request_state.specs.Lines.{AreLined}

-- an insert that counts
abbrev pub is_made : Kept → Bool
is_made k = is_insert k.request.edit && not (is_invalid k.state)

-- the cell of the element that the row's request makes
abbrev pub cell_of_row : Row → Option Cell
cell_of_row r = option_map (λ own. cell_by (not (is_invalid r.kept.state)) own r.counts) (own_of r.kept.request)

-- what is kept in the rows
abbrev pub kept_rows : List (Name × Row) → List (Name × Kept)
kept_rows rows = map (λ e. (e.0, e.1.kept)) rows

-- the row of a name
abbrev pub row_under : List (Name × Row) → Name → Option Row
row_under rows n = lookup (is_at (name_cmp n)) rows

-- the cell at an element's name
abbrev pub cell_under : List (Name × Row) → Name → Option Cell
cell_under rows e = option_and_then cell_of_row (row_under rows e)

-- ---- changes

-- the row of a new request, with nothing counted
abbrev pub new_row : Request → State → Row
new_row q state = record { kept = record { request = q; state = state }; counts = record { cuts = 0; letters = [] } }

-- a delete or update of this name may be counted in the row of its element
abbrev pub HasRoomUnder : List (Name × Row) → Request → Type 0
HasRoomUnder rows q = is_insert q.edit ≡ false → (r : Row) → row_under rows (element_of q) ≡ Some r → HasRoomFor q.id r.counts

-- a cell, where another state of its insert counts
abbrev pub cell_in_state : State → Cell → Cell
cell_in_state state c = record { made = not (is_invalid state); cuts = c.cuts; letters = c.letters; own = c.own }

-- the cells once a delete or an update counts, unless its state is Invalid
abbrev pub cell_counted : (Name → Option Cell) → Request → State → Name → Option Cell
cell_counted cell q state e = if is_insert q.edit || is_invalid state then cell e else option_map (cell_with e q) (cell e)

-- the cells with a new request, which makes one if it is an insert
abbrev pub cell_joined : (Name → Option Cell) → Request → State → Name → Option Cell
cell_joined cell q state e = if is_insert q.edit && name_eq q.id e then cell_of_row (new_row q state) else cell_counted cell q state e

-- the cells once a delete or an update counts no more
abbrev pub cell_discounted : (Name → Option Cell) → Request → Name → Option Cell
cell_discounted cell q e = if is_insert q.edit then cell e else option_map (cell_less e q) (cell e)

-- ---- all of it

-- the cells are those of the requests, of which some are counted, once each, and of elements that are there
pub record AreCellsOf (cell : Name → Option Cell) (requests counted : List Request) : Type 0 where
  pub cells_of : (e : Name) → cell e ≡ cell_of requests counted e
  pub once : are_distinct (map (λ q. q.id) counted) ≡ true
  pub elements : list_all (λ q. is_some (cell (element_of q))) counted ≡ true

-- the rows of requests, with the places of those that are Tentative, and with the cells of their elements
pub record IsStateTable (rows : List (Name × Row)) (places : List Place) : Type 0 where
  pub lines : AreLined (kept_rows rows) places
  pub cells : AreCellsOf (cell_under rows) (requests_kept (values_of (kept_rows rows))) (counted_of (values_of (kept_rows rows)))
