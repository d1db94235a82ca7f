-- The peer after the steps before the index.
use Rattle.std.proofs.Common.{◌≡◌, take}
use Rattle.std.specs.Prelude.{fold}
use Rattle.peer_core.specs.After.{peer_after}
use Rattle.peer_outlook.proofs.outlook.make_each.Given as goal

abbrev pub invariant-loop-step : goal.invariant-loop-step
invariant-loop-step l = l.peer ≡ fold peer_after l.initial.peer (take l.step-index l.steps)
