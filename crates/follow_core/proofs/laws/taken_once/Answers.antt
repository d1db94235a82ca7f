use Rattle.follow_core.proofs.Repeats.{taken_once}
use Rattle.follow_core.proofs.Samples.{taken_once_sample}
use Rattle.follow_core.proofs.laws.taken_once.Goals as goal

pub returns : goal.returns
returns c = record { law = taken_once; sample = taken_once_sample }
