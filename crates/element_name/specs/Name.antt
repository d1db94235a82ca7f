-- Names of requests and elements, in their order.
use Rattle.std.specs.Prelude.{◌≡◌, ℕ, ◌<◌, ◌≤◌, ◌^◌, Bool, true, not, ◌&&◌, ◌||◌, List, [], ◌∷◌, ◌==◌, nat_lt, nat_le}
use Rattle.std.specs.List.{list_any}
use Rattle.element_name.specs.declared.limits.TheConstants.{MAX_STAMP}

-- `stamp.site`
pub record Name : Type 0 where
  pub stamp : ℕ
  pub site : ℕ

-- `0.0`, which precedes every element and is none
abbrev pub start : Name
start = record { stamp = 0; site = 0 }

-- in the ranges of a name: the one name with stamp 0 is `start`
pub record IsName (n : Name) : Type 0 where
  pub stamp : n.stamp ≤ MAX_STAMP
  pub site : n.site < 2 ^ 16
  pub start_alone : n.stamp ≡ 0 → n.site ≡ 0

-- a stamp and a site of 16 bits are a name
abbrev pub is_in_range : ℕ → ℕ → Bool
is_in_range stamp site = nat_le stamp MAX_STAMP && (nat_lt 0 stamp || (site == 0))

-- a and b are one name
abbrev pub name_eq : Name → Name → Bool
name_eq a b = (a.stamp == b.stamp) && (a.site == b.site)

-- a is the lesser: by stamp, then by site
abbrev pub name_lt : Name → Name → Bool
name_lt a b = nat_lt a.stamp b.stamp || ((a.stamp == b.stamp) && nat_lt a.site b.site)

-- the name is in the list
abbrev pub has_name : List Name → Name → Bool
has_name names n = list_any (name_eq n) names

-- no name is twice in the list
abbrev pub are_distinct : List Name → Bool
are_distinct [] = true
are_distinct (n ∷ names) = not (has_name names n) && are_distinct names
