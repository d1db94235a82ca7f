use Rattle.std.proofs.Common.{map}
use Rattle.policy_book.specs.declared.parts.Object.{Object}
use Rattle.policy_book.proofs.KeptLimits.{set_rises}
use Rattle.policy_book.proofs.policy.Policy.extent.Goals as goal

pub find-requires : goal.find-requires
find-requires c =
    rw c.deref.ensures.value (set_rises (map (λ (o : Object). o.number) c.self.inside.tables.objects.items) c.self.invariant.objects)
