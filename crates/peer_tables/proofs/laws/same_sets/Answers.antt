use Rattle.peer_tables.proofs.SameSetLemmas.{set_law}
use Rattle.peer_tables.proofs.laws.same_sets.Goals as goal

pub returns : goal.returns
returns c = set_law
