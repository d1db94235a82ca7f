use Rattle.policy_book.proofs.KeptLimits.{kept}
use Rattle.policy_book.proofs.policy.Policy.apply_legal.Goals as goal

pub invariant_of-self-2 : goal.invariant_of-self-2
invariant_of-self-2 c =
    rw c.in_ok-change.ensures.ok (kept _ c.args.version c.args.op.now c.self.invariant (rw c.self.view_is c.requires) c.operation_in_range.ensures)
