-- Carets, which stand behind an element that is known by its name.
use Rattle.std.specs.Prelude.{◌≡◌, ℕ, ◌+◌, List, Option, Some, count_by, slice_get, nat_le}
use Rattle.element_name.specs.Cases.{when}
use Rattle.element_name.specs.Name.{Name, has_name}
use Rattle.element_name.specs.Places.{place_in}
use Rattle.coop_request.specs.History.{text_order}
use Rattle.peer_core.specs.Peer.{Peer, history, shown_elements}
use Rattle.peer_core.specs.Sound.{IsSound}

-- how many of these names have a place in the order that isn't greater
abbrev pub count_up_to : List Name → List Name → ℕ → ℕ
count_up_to order names place = count_by (λ n. nat_le (place_in order n) place) names

-- how many elements that show stand up to an element in text order, itself counted if it shows; none where it is no element
abbrev pub shown_up_to : Peer → Name → Option ℕ
shown_up_to p n = when (has_name (text_order (history p)) n) (count_up_to (text_order (history p)) (shown_elements p) (place_in (text_order (history p)) n))

-- ---- laws

-- a caret behind an element that shows is found again: as many show up to it as stood in front of the caret
abbrev pub CaretLaw : Type 0
CaretLaw = (p : Peer) (i : ℕ) (n : Name) → IsSound p → slice_get (shown_elements p) i ≡ Some n → shown_up_to p n ≡ Some (i + 1)
