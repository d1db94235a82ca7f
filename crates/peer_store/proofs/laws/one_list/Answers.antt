use Rattle.peer_store.proofs.Readings.{one_list}
use Rattle.peer_store.proofs.laws.one_list.Goals as goal

pub returns : goal.returns
returns c = one_list c.one_reading.ensures c.one_step.ensures
