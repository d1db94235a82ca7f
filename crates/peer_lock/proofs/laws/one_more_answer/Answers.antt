use Rattle.peer_lock.proofs.ByCaller.{told_step}
use Rattle.peer_lock.proofs.laws.one_more_answer.Goals as goal

pub returns : goal.returns
returns c = told_step
