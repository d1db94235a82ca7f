-- The law of steps that are read.
use Rattle.std.specs.Prelude.{◌≡◌, ℕ, List, Some, IsTrue}
use Rattle.peer_step.specs.declared.step.Step.{Step}
use Rattle.peer_step.specs.Formed.{is_step}
use Rattle.line_read.specs.Step.{step_line}

-- what a step line says is well formed
abbrev pub FormedStepLaw : Type 0
FormedStepLaw = (bytes : List ℕ) (step : Step) → step_line bytes ≡ Some step → IsTrue (is_step step)
