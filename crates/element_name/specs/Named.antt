-- Items that have names, in lists in ascending order of name.
use Rattle.std.specs.declared.cmp.Ordering.{Ordering}
use Rattle.std.specs.Ordering.{nat_cmp, ordering_then}
use Rattle.std.specs.Prelude.{Bool, not, List, [], ◌∷◌, Option, find, filter, if◌then◌else◌}
use Rattle.element_name.specs.Name.{Name, name_eq, name_lt}
use Rattle.element_name.specs.Numbered.{is_rising}

-- how two names compare: by stamp, then by site
abbrev pub name_cmp : Name → Name → Ordering
name_cmp a b = ordering_then (nat_cmp a.stamp b.stamp) (nat_cmp a.site b.site)

module _ {A : Type 0} (name : A → Name) where
  -- each name is less than the next
  abbrev pub is_ascending : List A → Bool
  is_ascending items = is_rising (λ x y. name_lt (name x) (name y)) items

  -- the item of a name
  abbrev pub item_named : Name → List A → Option A
  item_named n items = find (λ x. name_eq (name x) n) items

  -- the items of other names
  abbrev pub without_named : Name → List A → List A
  without_named n items = filter (λ x. not (name_eq (name x) n)) items

  -- the item in front of the first whose name is greater
  abbrev pub put_named : A → List A → List A
  put_named x [] = x ∷ []
  put_named x (y ∷ ys) = if name_lt (name x) (name y) then x ∷ y ∷ ys else y ∷ put_named x ys

  -- the items in ascending order of name
  abbrev pub in_name_order : List A → List A
  in_name_order [] = []
  in_name_order (x ∷ xs) = put_named x (in_name_order xs)
