-- The words of the trait `Places`, over its list of element names in text order.
use Rattle.std.specs.Prelude.{ℕ, Bool, ◌&&◌, ◌||◌, List, length, nat_lt, nat_le}
use Rattle.std.specs.List.{position_or_len}
use Rattle.element_name.specs.Name.{Name, start, name_eq, has_name}
use Rattle.element_name.specs.Tree.{skip}

-- `start` or an element: what an element may be anchored on
abbrev pub is_anchor : List Name → Name → Bool
is_anchor names n = name_eq n start || has_name names n

-- the place of a name, or the length where it is no element
abbrev pub place_in : List Name → Name → ℕ
place_in names n = position_or_len (name_eq n) names

-- both are elements, and the place of the first is the smaller
abbrev pub stands_before : List Name → Name → Name → Bool
stands_before names a b = nat_lt (place_in names a) (place_in names b) && nat_lt (place_in names b) (length names)

-- `fresh`, if it were made after the anchor, would stand before b
abbrev pub fresh_stands_before : List Name → Name → Name → Name → Bool
fresh_stands_before names fresh anchor b = nat_le (skip names fresh anchor) (place_in names b)
