-- What a row ends as, where a `&mut` to its value is returned.
use Rattle.std.specs.Borrow.{Lends, Fml, RattleType, MutBor}
use Rattle.element_name.specs.Name.{Name}
use Rattle.name_index.specs.contracts.names.Row.{the_row}

-- once the borrow r ends, the row has the last value written through r
abbrev pub lends_row_value : (V : RattleType) → MutBor (Name × V.Denot) → MutBor V.Denot → Fml
lends_row_value V s r = Lends (the_row V) V s r (λ w. (s.now.0, w))
