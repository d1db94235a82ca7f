use Rattle.std.proofs.Common.{refl}
use Rattle.std.specs.List.Sorted.{IsStrictlySortedBy}
use Rattle.request_state.proofs.table.StateTable.new.Goals as goal

pub invariant_of-result : goal.invariant_of-result
unfolding IsStrictlySortedBy
invariant_of-result c = rw (c.new.ensures, c.new-2.ensures) (record {
  lines = record { ordered = tt; keyed_by_name = refl; lined = λ p. refl };
  cells = record { cells_of = λ e. refl; once = refl; elements = refl };
})
