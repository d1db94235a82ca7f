-- Extents over the elements of a renewed text.
use Rattle.std.specs.Prelude.{ℕ, ◌+◌, ◌-◌, ◌==◌, Bool, false, List, [], ◌∷◌, ◌++◌, length, map, drop, slice_index_or, if◌then◌else◌}
use Rattle.element_name.specs.Name.{Name, start}
use Rattle.policy_book.specs.Lists.{is_name_list}
use Rattle.policy_book.specs.declared.parts.Object.{Object}
use Rattle.policy_book.specs.declared.auth.Extent.{Extent}
use Rattle.policy_book.specs.declared.auth.Extent.TheVariants.{All, Span, Elems, By}
use Rattle.peer_core.specs.Peer.{Peer}
use Rattle.peer_renewal.specs.Coverage.{front_policy, covered_bytes, kept_objects}

-- the element that a fresh peer's insert of a number makes, from 1
abbrev pub written_name : ℕ → Name
written_name number = record { stamp = number; site = 0 }

-- this element, if it is covered
abbrev pub covered_name : ℕ → Bool → List Name
covered_name number covered = if covered then written_name number ∷ [] else []

-- the elements of the pieces, from a number on, of which the first byte is covered
abbrev pub covered_names : ℕ → List Bool → List (List ℕ) → List Name
covered_names number covered [] = []
covered_names number covered (piece ∷ pieces) =
    covered_name number (slice_index_or covered 0 false) ++ covered_names (number + 1) (drop (length piece) covered) pieces

-- no element has the name `start`, so this covers nothing
abbrev pub nothing_covered : Extent
nothing_covered = Elems (start ∷ [])

-- the span from the first of the elements to the last
abbrev pub span_of : List Name → Extent
span_of names = if length names == 0 then nothing_covered else Span (slice_index_or names 0 start) (slice_index_or names (length names - 1) start)

-- the extent of one's kind over these elements
abbrev pub extent_anew : Extent → List Name → Extent
extent_anew All names = All
extent_anew (Span first last) names = span_of names
extent_anew (Elems listed) names = if is_name_list names then Elems names else nothing_covered
extent_anew (By user) names = nothing_covered

-- the object over the pieces of which the old one covers the first byte
abbrev pub object_anew : Peer → List (List ℕ) → Object → Object
object_anew p pieces o = record { number = o.number; extent = extent_anew o.extent (covered_names 1 (covered_bytes p o.extent) pieces) }

-- those of objects that are kept, over these pieces
abbrev pub made_anew : Peer → List (List ℕ) → List Object → List Object
made_anew p pieces objects = map (object_anew p pieces) (kept_objects objects)

abbrev pub objects_anew : Peer → List (List ℕ) → List Object
objects_anew p pieces = made_anew p pieces (front_policy p).objects
