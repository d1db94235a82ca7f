use Rattle.peer_disk.proofs.Readings.{one_reading}
use Rattle.peer_disk.proofs.laws.one_reading.Goals as goal

pub returns : goal.returns
returns c = one_reading
