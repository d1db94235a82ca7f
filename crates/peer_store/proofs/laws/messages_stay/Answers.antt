use Rattle.peer_store.proofs.Ahead.{messages_stay}
use Rattle.peer_store.proofs.laws.messages_stay.Goals as goal

pub returns : goal.returns
returns c = messages_stay
