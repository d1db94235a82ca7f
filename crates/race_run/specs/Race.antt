-- The run of a race.
use Rattle.std.specs.Prelude.{◌≡◌, ℕ, ◌≤◌, List, []}
use Rattle.peer_step.specs.declared.step.Step.{Step}
use Rattle.peer_lock.specs.declared.call.Call.{Call}
use Rattle.peer_lock.specs.Run.{steps_by}

-- the steps of the callers 0, 1 and 2 are these lists, each whole and in its order, and there is no other caller
pub record IsRaceOf (edits arrivals operations : List Step) (run : List Call) : Type 0 where
  pub editor : steps_by 0 run ≡ edits
  pub receiver : steps_by 1 run ≡ arrivals
  pub administrator : steps_by 2 run ≡ operations
  pub others : (caller : ℕ) → 3 ≤ caller → steps_by caller run ≡ []
