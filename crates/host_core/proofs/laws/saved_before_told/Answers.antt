use Rattle.host_core.proofs.Saving.{saved_before, whole_saved, told_saved, beginning}
use Rattle.host_core.proofs.Samples.{saved_sample}
use Rattle.host_core.proofs.laws.saved_before_told.Goals as goal

pub returns : goal.returns
returns c = record { given = saved_before; answered = whole_saved; told = told_saved; beginning = beginning; sample = saved_sample }
