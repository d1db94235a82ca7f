use Rattle.peer_disk.proofs.Readings.{broken_has_none}
use Rattle.peer_disk.proofs.laws.broken_has_none.Goals as goal

pub returns : goal.returns
returns c = broken_has_none
