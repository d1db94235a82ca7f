use Rattle.std.proofs.Common.{◌≡◌, ◌++◌, drop}
use Rattle.peer_renewal.specs.Operations.{objects_made}
use Rattle.peer_renewal.proofs.operations.push_objects.Given as goal

abbrev pub invariant-loop-object : goal.invariant-loop-object
invariant-loop-object l = l.ops.items ++ objects_made (drop l.object-index l.objects) ≡ l.initial.ops.items ++ objects_made l.objects
