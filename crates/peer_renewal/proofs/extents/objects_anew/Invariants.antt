use Rattle.std.proofs.Common.{◌≡◌, ◌++◌, drop}
use Rattle.peer_renewal.specs.Extents.{made_anew}
use Rattle.peer_renewal.proofs.extents.objects_anew.Given as goal

abbrev pub invariant-loop-object : goal.invariant-loop-object
invariant-loop-object l = l.objects.items ++ made_anew l.old l.pieces (drop l.object-index l.object-items) ≡ made_anew l.old l.pieces l.object-items
