use Rattle.std.proofs.Common.{take}
use Rattle.peer_lock.specs.Answers.{IsSame}
use Rattle.peer_lock.specs.Made.{Made}
use Rattle.link_run.proofs.own.make_own.Given as goal

abbrev pub invariant-loop-step : goal.invariant-loop-step
invariant-loop-step g l = IsSame l.initial.pass l.pass × Made l.initial.pass.view l.pass.view (take l.step-index l.steps)
