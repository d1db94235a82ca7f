use Rattle.peer_lock.proofs.ByCaller.{all_owned}
use Rattle.peer_lock.proofs.laws.all_steps.Goals as goal

pub returns : goal.returns
returns c = all_owned
