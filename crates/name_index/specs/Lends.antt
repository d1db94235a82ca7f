-- What a map ends as, where a `&mut` to one of its values is returned.
use Rattle.std.specs.Prelude.{◌≡◌, List, Option, Some, IsSome, cond}
use Rattle.std.specs.Map.{lookup, set_value}
use Rattle.std.specs.BTreeMap.{is_at}
use Rattle.std.specs.Borrow.{LendsSo, Fml, RattleType, MutBor}
use Rattle.element_name.specs.Name.{Name}
use Rattle.element_name.specs.Named.{name_cmp}
use Rattle.name_index.specs.contracts.names.NameMap.{the_row}

-- the name has that value, if it is there, and nothing else changed
pub record IsWritten {X : Type 0} (old : List (Name × X)) (n : Name) (new : List (Name × X)) (w : X) : Type 0 where
  pub entries : new ≡ set_value (is_at (name_cmp n)) old w
  pub updates : IsSome (lookup (is_at (name_cmp n)) old) → (q : Name) → lookup (is_at (name_cmp q)) new ≡ cond (is_at (name_cmp n) q) (Some w) (lookup (is_at (name_cmp q)) old)

-- once the borrow r ends, the name has the last value written through r, and at `None` the map stays as it is
abbrev pub lends_found : (V : RattleType) → MutBor (List (Name × V.Denot)) → Name → Option (MutBor V.Denot) → Fml
lends_found V m n r = LendsSo (the_row V) V m r (IsWritten m.now n) (λ after. after ≡ m.now)
