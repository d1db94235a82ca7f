use Rattle.peer_renewal.proofs.OperationLemmas.{issued_more}
use Rattle.peer_renewal.proofs.operations.issue_all.Goals as goal

pub loop-op-preserved : goal.loop-op-preserved
loop-op-preserved c = issued_more c.args.peer.now c.loop-op.peer c.step.new.self c.loop-op.yielded c.in-Some.op c.in_ok-step.ensures.after c.loop-op.invariant
