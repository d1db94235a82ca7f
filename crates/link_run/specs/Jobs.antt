-- The parts of jobs.
use Rattle.std.specs.Prelude.{ℕ, List, [], ◌∷◌, Option, Result}
use Rattle.peer_lock.specs.KnownPass.{KnownPass}
use Rattle.session_core.specs.declared.fault.SessionFault.{SessionFault}
use Rattle.link_run.specs.declared.job.Job.{Job}

-- their passes, in order
abbrev pub passes_of : {L : Type 0} → List (Job L) → List KnownPass
passes_of [] = []
passes_of (j ∷ js) = j.pass ∷ passes_of js

-- their links, in order
abbrev pub links_of : {L : Type 0} → List (Job L) → List L
links_of [] = []
links_of (j ∷ js) = j.link ∷ links_of js

-- how their sessions ended, in order
abbrev pub outcomes_of : {L : Type 0} → List (Job L) → List (Option (Result ℕ SessionFault))
outcomes_of [] = []
outcomes_of (j ∷ js) = j.outcome ∷ outcomes_of js
