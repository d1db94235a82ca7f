use Rattle.std.proofs.Common.{◌≡◌, take}
use Rattle.form_watch.specs.Workers.{Publishing}
use Rattle.form_watch.proofs.writing.publish_all.Given as goal

abbrev pub invariant-loop-step : goal.invariant-loop-step
invariant-loop-step g l = record {
  published : Publishing l.initial.screen l.initial.pass (take l.step-index l.steps) l.screen l.pass;
  counted : l.made ≡ l.step-index;
}
