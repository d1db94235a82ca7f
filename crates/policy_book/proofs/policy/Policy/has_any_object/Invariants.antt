use Rattle.std.proofs.Common.{◌≡◌, drop}
use Rattle.std.specs.List.{list_any}
use Rattle.policy_book.specs.Policy.{is_object}
use Rattle.policy_book.proofs.policy.Policy.has_any_object.Given as goal

abbrev pub invariant-loop-object : goal.invariant-loop-object
invariant-loop-object l = list_any (is_object l.self) l.objects ≡ list_any (is_object l.self) (drop l.object-index l.objects)
