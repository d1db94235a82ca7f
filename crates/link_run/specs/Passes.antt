-- A pass that is alone.
use Rattle.std.specs.Prelude.{◌≡◌, ℕ, [], ◌∷◌}
use Rattle.atomic_table.specs.Seated.{TableId}
use Rattle.peer_lock.specs.KnownPass.{KnownPass}

-- the one pass of a shared peer of a site
pub record IsSolePass (table : TableId) (site : ℕ) (k : KnownPass) : Type 0 where
  pub table_is : k.table ≡ table
  pub number_is : k.view.number ≡ 0
  pub numbers_are : k.view.numbers ≡ 0 ∷ []
  pub origin_is : k.view.origin ≡ site
  pub made_is : k.view.made ≡ 1
