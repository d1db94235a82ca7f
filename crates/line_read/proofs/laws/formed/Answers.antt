use Rattle.line_read.proofs.FormedSteps.{formed_step_law}
use Rattle.line_read.proofs.laws.formed.Goals as goal

pub returns : goal.returns
returns c = formed_step_law
