use Rattle.follow_core.proofs.Saving.{replay}
use Rattle.follow_core.proofs.Samples.{replay_sample}
use Rattle.follow_core.proofs.laws.same_answers.Goals as goal

pub returns : goal.returns
returns c = record { law = replay; sample = replay_sample }
