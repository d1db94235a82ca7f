use Rattle.std.proofs.Common.{◌≡◌, drop}
use Rattle.std.specs.List.{list_any}
use Rattle.auth_match.specs.Verdict.{object_covers_judged}
use Rattle.auth_match.proofs.few.any_covers_by.Given as goal

abbrev pub invariant-loop-object : goal.invariant-loop-object
invariant-loop-object g l =
    let test = object_covers_judged (g.P.Places.names l.places) l.policy l.judged in
    list_any test l.objects ≡ list_any test (drop l.object-index l.objects)
