use Rattle.peer_lock.proofs.ByCaller.{had_room}
use Rattle.peer_lock.proofs.laws.never_full.Goals as goal

pub returns : goal.returns
returns c = had_room
