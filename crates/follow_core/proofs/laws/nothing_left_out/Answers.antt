use Rattle.follow_core.proofs.Saving.{back_law}
use Rattle.follow_core.proofs.Samples.{back_sample}
use Rattle.follow_core.proofs.laws.nothing_left_out.Goals as goal

pub returns : goal.returns
returns c = record { law = back_law; sample = back_sample }
