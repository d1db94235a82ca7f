use Rattle.peer_core.proofs.CaretLemmas.{caret_law}
use Rattle.peer_core.proofs.laws.carets.Goals as goal

pub returns : goal.returns
returns c = caret_law
