use Rattle.follow_core.proofs.Saving.{saved_before, told_saved, beginning}
use Rattle.follow_core.proofs.Samples.{saved_sample}
use Rattle.follow_core.proofs.laws.saved_before_sent.Goals as goal

pub returns : goal.returns
returns c = record { passed = saved_before; told = told_saved; beginning = beginning; sample = saved_sample }
