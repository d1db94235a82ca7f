-- The run of a watch.
use Rattle.std.specs.Prelude.{List, [], ◌∷◌, map}
use Rattle.peer_step.specs.declared.step.Step.{Step}
use Rattle.peer_step.specs.declared.step.Step.TheVariants.{Show}
use Rattle.peer_lock.specs.declared.call.Call.{Call}
use Rattle.peer_lock.specs.Run.{call}

-- each step, followed by Show
abbrev pub each_shown : List Step → List Step
each_shown [] = []
each_shown (step ∷ steps) = step ∷ Show ∷ each_shown steps

-- Show, and then each step followed by Show, all of them of caller 0
abbrev pub watch_run : List Step → List Call
watch_run steps = map (call 0) (Show ∷ each_shown steps)
