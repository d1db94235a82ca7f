use Rattle.std.proofs.Common.{◌≡◌}
use Rattle.host_house.proofs.shelf.seal_all.Given as goal

abbrev pub invariant-loop-number : goal.invariant-loop-number
invariant-loop-number g l = l.documents ≡ l.initial.documents
