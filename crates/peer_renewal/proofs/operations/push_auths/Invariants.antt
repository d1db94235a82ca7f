use Rattle.std.proofs.Common.{◌≡◌, ◌++◌, drop}
use Rattle.peer_renewal.specs.Operations.{auths_made}
use Rattle.peer_renewal.proofs.operations.push_auths.Given as goal

abbrev pub invariant-loop-place : goal.invariant-loop-place
invariant-loop-place l = l.ops.items ++ auths_made l.place (drop l.place l.auths) ≡ l.initial.ops.items ++ auths_made 0 l.auths
