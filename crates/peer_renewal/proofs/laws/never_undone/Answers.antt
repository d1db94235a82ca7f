use Rattle.peer_renewal.proofs.RightLemmas.{never_undone}
use Rattle.peer_renewal.proofs.laws.never_undone.Goals as goal

pub returns : goal.returns
returns c = never_undone
