use Rattle.coop_request.proofs.Histories.{IsTree-placed_of}
use Rattle.coop_request.proofs.laws.history_is_tree.Goals as goal

pub returns : goal.returns
returns c = λ requests h. IsTree-placed_of requests h
