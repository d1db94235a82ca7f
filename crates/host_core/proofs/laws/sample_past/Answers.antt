use Rattle.host_core.proofs.Samples.{happens, given, door, closed}
use Rattle.host_core.proofs.laws.sample_past.Goals as goal

pub returns : goal.returns
returns c = record { happens = happens; given = given; door = door; closed = closed }
