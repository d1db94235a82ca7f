use Rattle.report_run.specs.Report.{report}
use Rattle.race_run.proofs.laws.alone.Goals as goal

pub returns : goal.returns
returns c = λ site run input. c.silence.ensures.outputs (report site run) input
