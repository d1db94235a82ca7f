use Rattle.std.proofs.Common.{◌≡◌, drop}
use Rattle.peer_renewal.specs.Coverage.{kept_objects}
use Rattle.peer_renewal.specs.Renewal.{coverings}
use Rattle.peer_renewal.proofs.likeness.has_same_objects.Given as goal

abbrev pub invariant-loop-object : goal.invariant-loop-object
invariant-loop-object l =
    coverings l.new l.made ≡ coverings l.old (kept_objects (drop l.object-index l.object-items))
    → coverings l.new l.initial.made ≡ coverings l.old (kept_objects l.object-items)
