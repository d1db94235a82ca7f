-- What showed of the elements that an entry may change.
use Rattle.std.specs.Prelude.{ℕ, List, [], Option, fold, if◌then◌else◌}
use Rattle.std.specs.BTreeMap.{insert_entry}
use Rattle.std.specs.Ordering.{nat_cmp}
use Rattle.element_name.specs.Name.{Name, has_name}
use Rattle.element_name.specs.Places.{place_in}
use Rattle.coop_request.specs.History.{text_order}
use Rattle.peer_step.specs.declared.step.LocalEdit.{LocalEdit}
use Rattle.peer_core.specs.Peer.{Peer, history}
use Rattle.text_change.specs.declared.seen.Seen.{Seen}
use Rattle.text_change.specs.Rows.{piece_at, row_of}

-- an element, with the piece that shows of it
abbrev pub seen_of : Peer → Name → Seen
seen_of p e = record { element = e; piece = piece_at p e }

-- with one more element, at its place in text order
abbrev pub with_seen : Peer → List (ℕ × Seen) → Name → List (ℕ × Seen)
with_seen p entries e =
    if has_name (text_order (history p)) e then insert_entry nat_cmp entries (place_in (text_order (history p)) e) (seen_of p e) else entries

-- these elements by their places, ascending
abbrev pub seen_at : Peer → List Name → List (ℕ × Seen)
seen_at p elements = fold (with_seen p) [] elements

-- the row of one of them
abbrev pub row_by : Peer → (ℕ × Seen) → Option LocalEdit
row_by p x = row_of p x.1.element x.1.piece
