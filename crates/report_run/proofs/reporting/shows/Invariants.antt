use Rattle.report_run.proofs.KeptRuns.{ShowsNothingBelow}
use Rattle.report_run.proofs.reporting.shows.Given as goal

abbrev pub invariant-loop-i : goal.invariant-loop-i
invariant-loop-i l = ShowsNothingBelow l.history l.i
