use Rattle.peer_store.proofs.Readings.{no_store}
use Rattle.peer_store.proofs.laws.no_store.Goals as goal

pub returns : goal.returns
returns c = no_store c.broken_has_none.ensures c.one_step.ensures
