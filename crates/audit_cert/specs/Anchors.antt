-- The checker's elements: their anchors, what leads from each to the next in the text, and their places.
use Rattle.std.specs.Prelude.{◌≡◌, ℕ, Bool, true, ◌&&◌, nat_lt, map, position, List, [], ◌∷◌, Option, Some, None, if◌then◌else◌}
use Rattle.std.specs.List.{list_all}
use Rattle.std.specs.List.Sorted.{IsStrictlySortedBy}
use Rattle.std.specs.Map.{keys_of, lookup}
use Rattle.std.specs.BTreeMap.{is_at}
use Rattle.element_name.specs.Name.{Name, name_eq, are_distinct}
use Rattle.element_name.specs.Named.{name_cmp}
use Rattle.element_name.specs.Places.{is_anchor}
use Rattle.element_name.specs.Tree.{Placed}

-- elements by name, each with its anchor
abbrev pub placed_from : List (Name × Name) → List Placed
placed_from entries = map (λ e. record { name = e.0; anchor = e.1 }) entries

-- an element's anchor is `start` or one of these, and has the lesser stamp
abbrev pub is_anchored : List Name → Name × Name → Bool
is_anchored names e = is_anchor names e.1 && nat_lt e.1.stamp e.0.stamp

-- elements in ascending order of name, with their anchors
pub record IsAnchored (entries : List (Name × Name)) : Type 0 where
  pub ordered : IsStrictlySortedBy name_cmp (keys_of entries)
  pub anchored : list_all (is_anchored (keys_of entries)) entries ≡ true

-- the name that an index has at a name
abbrev pub name_under : List (Name × Name) → Name → Option Name
name_under index n = lookup (is_at (name_cmp n)) index

-- n leads to the first of these names, each of them to the next one, and the last to none
abbrev pub LeadsThrough : (Name → Option Name) → Name → List Name → Type 0
LeadsThrough next n [] = next n ≡ None
LeadsThrough next n (m ∷ names) = (next n ≡ Some m) × LeadsThrough next m names

-- where each name leads, with n put in behind its anchor
abbrev pub put_behind : (Name → Option Name) → Name → Name → Name → Option Name
put_behind next anchor n m = if name_eq anchor m then Some n else if name_eq n m then next anchor else next m

-- each name is there once, and leads to its place
pub record AreRanked (names : List Name) (place : Name → Option ℕ) : Type 0 where
  pub distinct : are_distinct names ≡ true
  pub places : (n : Name) → place n ≡ position (name_eq n) names
