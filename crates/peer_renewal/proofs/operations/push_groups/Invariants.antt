use Rattle.std.proofs.Common.{◌≡◌, ◌++◌, drop}
use Rattle.std.specs.List.{flat_map}
use Rattle.peer_renewal.specs.Operations.{group_made}
use Rattle.peer_renewal.proofs.operations.push_groups.Given as goal

abbrev pub invariant-loop-group : goal.invariant-loop-group
invariant-loop-group l = l.ops.items ++ flat_map group_made (drop l.group-index l.groups) ≡ l.initial.ops.items ++ flat_map group_made l.groups
