use Rattle.std.proofs.Common.{◌≡◌, ◌++◌, drop}
use Rattle.peer_renewal.specs.Operations.{members_made}
use Rattle.peer_renewal.proofs.operations.push_members.Given as goal

abbrev pub invariant-loop-user : goal.invariant-loop-user
invariant-loop-user l = l.ops.items ++ members_made l.group (drop l.user-index l.members) ≡ l.initial.ops.items ++ members_made l.group l.members
