-- The tree of elements by their anchors, and its text order.
use Rattle.std.specs.Prelude.{◌≡◌, ℕ, ◌<◌, ◌||◌, map, ◌+◌, Bool, true, false, List, [], ◌∷◌, ◌++◌, reverse, drop, insert, if◌then◌else◌}
use Rattle.std.specs.List.{position_or_len, prefix_len}
use Rattle.element_name.specs.Name.{Name, start, name_eq, name_lt, has_name}
use Rattle.element_name.specs.Growing.{EachAfter}

-- an element, and the element or `start` that it is anchored on
pub record Placed : Type 0 where
  pub name : Name
  pub anchor : Name

-- The definitions that end in `_in` read the placed names from the newest to the oldest.

-- the names from the child of `start` down to the element
abbrev pub path_in : List Placed → Name → List Name
path_in [] e = []
path_in (p ∷ older) e = if name_eq p.name e then path_in older p.anchor ++ p.name ∷ [] else path_in older e

abbrev pub path : List Placed → Name → List Name
path placed e = path_in (reverse placed) e

-- the first path is a proper prefix of the second, or has the greater name at their first difference
abbrev pub path_before : List Name → List Name → Bool
path_before [] [] = false
path_before [] (f ∷ fs) = true
path_before (e ∷ es) [] = false
path_before (e ∷ es) (f ∷ fs) = if name_eq e f then path_before es fs else name_lt f e

abbrev pub before_in : List Placed → Name → Name → Bool
before_in newest e f = path_before (path_in newest e) (path_in newest f)

-- e stands before f in the text
abbrev pub before : List Placed → Name → Name → Bool
before placed e f = before_in (reverse placed) e f

-- the names with n directly in front of the first that passes the test, or last
abbrev pub put_before : (Name → Bool) → Name → List Name → List Name
put_before test n [] = n ∷ []
put_before test n (f ∷ fs) = if test f then n ∷ f ∷ fs else f ∷ put_before test n fs

abbrev pub order_in : List Placed → List Name
order_in [] = []
order_in (p ∷ older) = put_before (before_in (p ∷ older) p.name) p.name (order_in older)

-- the text order: each element in turn stands in front of the first that it is before
abbrev pub order : List Placed → List Name
order placed = order_in (reverse placed)

-- the place directly after the anchor: 0 after `start`
abbrev pub after_anchor : List Name → Name → ℕ
after_anchor names anchor = if name_eq anchor start then 0 else position_or_len (name_eq anchor) names + 1

-- that place, and past every next name that is greater
abbrev pub skip : List Name → Name → Name → ℕ
skip names n anchor = after_anchor names anchor + prefix_len (name_lt n) (drop (after_anchor names anchor) names)

-- the names with a new one at its place
abbrev pub with_fresh : List Name → Name → Name → List Name
with_fresh names n anchor = insert names (skip names n anchor) n

-- the names of placed elements
abbrev pub names_of : List Placed → List Name
names_of placed = map (λ p. p.name) placed

-- p may follow these: it is new, its anchor is `start` or an element, and its stamp is the greater
pub record FollowsTree (placed : List Placed) (p : Placed) : Type 0 where
  pub new : has_name (names_of placed) p.name ≡ false
  pub anchored : (name_eq p.anchor start || has_name (names_of placed) p.anchor) ≡ true
  pub rising : p.anchor.stamp < p.name.stamp

-- each element follows those before it
abbrev pub IsTree : List Placed → Type 0
IsTree placed = EachAfter FollowsTree placed
