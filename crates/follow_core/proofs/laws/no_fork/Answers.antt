use Rattle.follow_core.proofs.Saving.{no_fork}
use Rattle.follow_core.proofs.Samples.{no_fork_sample}
use Rattle.follow_core.proofs.laws.no_fork.Goals as goal

pub returns : goal.returns
returns c = record { law = no_fork; sample = no_fork_sample }
