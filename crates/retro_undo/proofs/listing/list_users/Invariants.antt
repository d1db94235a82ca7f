use Rattle.std.proofs.Common.{◌≡◌, ◌++◌, take}
use Rattle.retro_undo.specs.Listed.{taken_of, taken_of_users}
use Rattle.retro_undo.proofs.listing.list_users.Given as goal

abbrev pub invariant-loop-i : goal.invariant-loop-i
invariant-loop-i l = l.list.items ≡ l.fn.list.items ++ taken_of_users (taken_of l.taken) (take l.i l.users) l.states
