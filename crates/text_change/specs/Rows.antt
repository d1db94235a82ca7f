-- Rows, which tell what changed in the shown text.
use Rattle.std.specs.Prelude.{ℕ, ◌-◌, List, Option, None, Some, fold, option_and_then, if◌then◌else◌}
use Rattle.std.specs.Str.{bytes_eq}
use Rattle.element_name.specs.Name.{Name}
use Rattle.elem_show.specs.Cell.{shown}
use Rattle.peer_step.specs.declared.step.LocalEdit.{LocalEdit}
use Rattle.peer_step.specs.declared.step.LocalEdit.TheVariants.{Insert, Delete, Update}
use Rattle.peer_core.specs.Carets.{shown_up_to}
use Rattle.peer_core.specs.Laws.{text_edited}
use Rattle.peer_core.specs.Peer.{Peer, cell_at}

-- the text with the rows in it, one after another
abbrev pub text_told : List (List ℕ) → List LocalEdit → List (List ℕ)
text_told pieces rows = fold text_edited pieces rows

-- the piece that shows of an element, if it shows
abbrev pub piece_at : Peer → Name → Option (List ℕ)
piece_at p e = option_and_then shown (cell_at p e)

-- the row of an element of which the one piece showed and the other shows, where so many elements show up to it then
abbrev pub row_between : ℕ → Option (List ℕ) → Option (List ℕ) → Option LocalEdit
row_between up None None = None
row_between up (Some old) None = Some (Delete up)
row_between up None (Some new) = Some (Insert (up - 1) new)
row_between up (Some old) (Some new) = if bytes_eq old new then None else Some (Update (up - 1) new)

-- the row of an element of which this piece showed
abbrev pub row_of : Peer → Name → Option (List ℕ) → Option LocalEdit
row_of p e old = option_and_then (λ up. row_between up old (piece_at p e)) (shown_up_to p e)
