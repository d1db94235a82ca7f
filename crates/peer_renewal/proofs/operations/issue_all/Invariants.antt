use Rattle.std.proofs.Common.{◌≡◌, fold, map}
use Rattle.peer_step.specs.declared.step.Step.TheVariants.{Administer}
use Rattle.peer_core.specs.After.{peer_after}
use Rattle.peer_renewal.proofs.operations.issue_all.Given as goal

abbrev pub invariant-loop-op : goal.invariant-loop-op
invariant-loop-op l = l.peer ≡ fold peer_after l.initial.peer (map Administer l.yielded)
