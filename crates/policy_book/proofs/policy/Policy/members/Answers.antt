use Rattle.std.proofs.Common.{map}
use Rattle.policy_book.specs.declared.parts.Group.{Group}
use Rattle.policy_book.proofs.KeptLimits.{set_rises}
use Rattle.policy_book.proofs.policy.Policy.members.Goals as goal

pub find-requires : goal.find-requires
find-requires c =
    rw c.deref.ensures.value (set_rises (map (λ (o : Group). o.number) c.self.inside.tables.groups.items) c.self.invariant.groups)
