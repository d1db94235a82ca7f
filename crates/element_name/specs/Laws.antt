-- The laws of names.
use Rattle.std.specs.declared.cmp.Ordering.{Ordering}
use Rattle.std.specs.Ordering.{is_eq, is_lt}
use Rattle.std.specs.Prelude.{◌≡◌, Option, Some}
use Rattle.element_name.specs.Name.{Name, name_eq, name_lt}
use Rattle.element_name.specs.Named.{name_cmp}

-- names compare by stamp, and then by site: one is less where it is the lesser, and equal where both are one name
pub record OrderLaw (cmp : Name → Name → Ordering) (partial_cmp : Name → Name → Option Ordering) : Type 0 where
  pub by_stamp_then_site : (a b : Name) → cmp a b ≡ name_cmp a b
  pub also_partial : (a b : Name) → partial_cmp a b ≡ Some (name_cmp a b)
  pub less : (a b : Name) → is_lt (name_cmp a b) ≡ name_lt a b
  pub equal : (a b : Name) → is_eq (name_cmp a b) ≡ name_eq a b
