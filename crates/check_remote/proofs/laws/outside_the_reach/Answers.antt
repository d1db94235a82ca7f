use Rattle.check_remote.proofs.Reached.{outside_reach_law}
use Rattle.check_remote.proofs.laws.outside_the_reach.Goals as goal

pub returns : goal.returns
returns c = outside_reach_law
