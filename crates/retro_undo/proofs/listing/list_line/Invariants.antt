use Rattle.std.proofs.Common.{◌≡◌, ◌++◌, length}
use Rattle.element_name.specs.Name.{start}
use Rattle.retro_undo.specs.Listed.{taken_of, taken_above}
use Rattle.retro_undo.proofs.listing.list_line.Given as goal

abbrev pub invariant-loop-request : goal.invariant-loop-request
invariant-loop-request l = l.list.items ++ taken_above (taken_of l.taken) l.whose l.above l.states ≡ l.fn.list.items ++ taken_above (taken_of l.taken) l.whose start l.states

abbrev pub decreases-loop-request : goal.decreases-loop-request
decreases-loop-request l = length (taken_above (taken_of l.taken) l.whose l.above l.states)
