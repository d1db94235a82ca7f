-- What a worker made of its list.
use Rattle.std.specs.Prelude.{ℕ, ◌<◌, List, length, take}
use Rattle.peer_step.specs.declared.step.Step.{Step}
use Rattle.peer_lock.specs.declared.view.View.{View}
use Rattle.peer_lock.specs.Answers.{KnowsFull}
use Rattle.peer_lock.specs.Made.{Made}
use Rattle.race_run.specs.declared.working.Ended.{Ended}
use Rattle.race_run.specs.declared.working.Ended.TheVariants.{Done, Full, Short}

-- it has made the first steps of a list, and not all
abbrev pub MadeSome : View → View → List Step → Type 0
MadeSome v w steps = (k : ℕ) × (k < length steps) × Made v w (take k steps)

-- all of the list, or some of it before the run was full or memory was wanting
abbrev pub Works : View → View → List Step → Ended → Type 0
Works v w steps Done = Made v w steps
Works v w steps Full = KnowsFull w × MadeSome v w steps
Works v w steps Short = MadeSome v w steps
