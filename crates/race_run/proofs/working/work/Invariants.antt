use Rattle.std.proofs.Common.{◌≡◌, take}
use Rattle.peer_lock.specs.Answers.{IsSame}
use Rattle.peer_lock.specs.Made.{Made}
use Rattle.race_run.proofs.working.work.Given as goal

abbrev pub invariant-loop-step : goal.invariant-loop-step
invariant-loop-step g l = record {
  same : IsSame l.initial.pass l.pass;
  made : Made l.initial.pass.view l.pass.view (take l.step-index l.steps);
  counted : l.made ≡ l.step-index;
}
