use Rattle.par_sweep.proofs.Swept.{verdict_after, carried_early}
use Rattle.par_sweep.proofs.laws.early_verdicts.Goals as goal

pub returns-clause-same : goal.returns-clause-same
returns-clause-same c = verdict_after

pub returns-clause-setting : goal.returns-clause-setting
returns-clause-setting c = carried_early
