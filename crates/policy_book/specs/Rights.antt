-- Sets of rights.
use Rattle.std.specs.Prelude.{Bool, ◌||◌}

-- which of the three rights it holds
pub record Rights : Type 0 where
  pub insert : Bool
  pub delete : Bool
  pub update : Bool

-- at least one
abbrev pub has_any : Rights → Bool
has_any r = r.insert || (r.delete || r.update)
