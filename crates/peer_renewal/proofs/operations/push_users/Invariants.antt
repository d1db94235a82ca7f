use Rattle.std.proofs.Common.{◌≡◌, ◌++◌, drop}
use Rattle.peer_renewal.specs.Operations.{users_made}
use Rattle.peer_renewal.proofs.operations.push_users.Given as goal

abbrev pub invariant-loop-user : goal.invariant-loop-user
invariant-loop-user l = l.ops.items ++ users_made (drop l.user-index l.users) ≡ l.initial.ops.items ++ users_made l.users
