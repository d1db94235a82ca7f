-- Lists of numbers and of names, as authorizations and extents have them.
use Rattle.std.specs.Prelude.{ℕ, ◌^◌, Bool, ◌&&◌, List, length, ◌==◌, nat_lt, nat_le}
use Rattle.std.specs.List.{list_any, list_all}
use Rattle.element_name.specs.Name.{Name, name_lt, is_in_range}
use Rattle.element_name.specs.Numbered.{is_rising}
use Rattle.policy_book.specs.declared.limits.TheConstants.{MAX_NUMBERS, MAX_NAMES}

-- a number of 16 bits, as those of users, objects, groups and places are
abbrev pub is_short : ℕ → Bool
is_short n = nat_lt n (2 ^ 16)

-- a name in its ranges
abbrev pub is_name : Name → Bool
is_name n = is_in_range n.stamp n.site && is_short n.site

-- the number is in the list
abbrev pub has_number : List ℕ → ℕ → Bool
has_number numbers n = list_any (λ m. m == n) numbers

-- 1 to 16 numbers, strictly ascending
abbrev pub is_num_list : List ℕ → Bool
is_num_list numbers =
    (nat_lt 0 (length numbers) && nat_le (length numbers) MAX_NUMBERS) && (is_rising nat_lt numbers && list_all is_short numbers)

-- 1 to 32 names, strictly ascending
abbrev pub is_name_list : List Name → Bool
is_name_list names =
    (nat_lt 0 (length names) && nat_le (length names) MAX_NAMES) && (is_rising name_lt names && list_all is_name names)
