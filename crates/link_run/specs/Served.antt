-- The passes of all workers, and what stands of them in the run.
use Rattle.std.specs.Prelude.{◌≡◌, ℕ, ◌+◌, ◌<◌, ◌≤◌, List, [], take, length, slice_index_or}
use Rattle.atomic_table.specs.Seated.{TableId}
use Rattle.peer_step.specs.declared.step.Step.{Step}
use Rattle.peer_lock.specs.declared.limits.TheConstants.{MAX_RUN}
use Rattle.peer_lock.specs.declared.call.Call.{Call}
use Rattle.peer_lock.specs.Run.{steps_by}
use Rattle.peer_lock.specs.Rule.{newcomer}
use Rattle.link_run.specs.declared.job.Job.{Job}
use Rattle.link_run.specs.declared.own.OwnEnd.{OwnEnd}
use Rattle.link_run.specs.declared.own.OwnEnd.TheVariants.{Done, RunFull, NoMemory}

-- job i has the fresh pass of number i + 1
abbrev pub HaveDealtPasses : {L : Type 0} → TableId → ℕ → List (Job L) → Type 0
HaveDealtPasses {L} table site jobs = (i : ℕ) (d : Job L) → i < length jobs
    → ((slice_index_or jobs i d).pass.table ≡ table) × ((slice_index_or jobs i d).pass.view ≡ newcomer (i + 1) 0 site)

-- the run has as many steps as it may
abbrev pub IsFullRun : List Call → Type 0
IsFullRun run = MAX_RUN ≤ length run

-- no step is of a caller from this number on, and there are no more steps than a run may have
pub record IsRunOf (callers : ℕ) (run : List Call) : Type 0 where
  pub others : (caller : ℕ) → callers ≤ caller → steps_by caller run ≡ []
  pub room : length run ≤ MAX_RUN

-- the steps of caller 0 in the run are those of a list, or, where they were cut, the first ones
abbrev pub OwnIn : List Step → OwnEnd → List Call → Type 0
OwnIn steps Done run = steps_by 0 run ≡ steps
OwnIn steps RunFull run = IsFullRun run × ((k : ℕ) × (steps_by 0 run ≡ take k steps))
OwnIn steps NoMemory run = (k : ℕ) × (steps_by 0 run ≡ take k steps)
