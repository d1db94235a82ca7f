use Rattle.peer_store.proofs.Short.{body_short}
use Rattle.peer_store.proofs.laws.short_bodies.Goals as goal

pub returns : goal.returns
returns c = body_short
