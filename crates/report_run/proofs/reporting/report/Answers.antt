use Rattle.report_run.proofs.Tellings.{says_all, says_part}
use Rattle.report_run.proofs.reporting.report.Goals as goal

pub returns-in-Ok-clause-says : goal.returns-in-Ok-clause-says
returns-in-Ok-clause-says g c = says_all _ _ _ c.in-Ok.ensures.tells

pub returns-in-Err-clause-says : goal.returns-in-Err-clause-says
returns-in-Err-clause-says g c = says_part _ _ _ _ c.in-Err.ensures.tells
