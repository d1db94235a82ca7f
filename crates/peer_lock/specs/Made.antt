-- What a pass has made by several steps.
use Rattle.std.specs.Prelude.{◌≡◌, ℕ, List, ◌++◌, take}
use Rattle.peer_step.specs.declared.step.Step.{Step}
use Rattle.peer_lock.specs.declared.view.View.{View}
use Rattle.peer_lock.specs.Run.{steps_by}

-- the pass has made these steps
abbrev pub Made : View → View → List Step → Type 0
Made v w steps = steps_by v.number w.seen ≡ steps_by v.number v.seen ++ steps

-- it has made the first steps of a list, or all
abbrev pub MadeFirst : View → View → List Step → Type 0
MadeFirst v w steps = (k : ℕ) × Made v w (take k steps)
