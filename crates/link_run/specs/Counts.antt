-- What a run over links adds to the counts of its door.
use Rattle.std.specs.Prelude.{◌≡◌, ℕ, ◌+◌, List, Option, Some, Result, Ok, Err, OnErr, length, sum_by, if◌then◌else◌}
use Rattle.element_name.specs.declared.no_memory.NoMemory.{NoMemory}
use Rattle.session_core.specs.declared.fault.SessionFault.{SessionFault}
use Rattle.session_core.specs.declared.fault.SessionFault.TheVariants as session_faults
use Rattle.link_run.specs.declared.left.LinkRun.{LinkRun}

-- how many failed links this is: one, or none
abbrev pub failures_in : Option (Result ℕ SessionFault) → ℕ
failures_in (Some (Err session_faults.LinkFault)) = 1
failures_in outcome = 0

-- how many links the door gave
abbrev pub links_given : Result LinkRun NoMemory → ℕ
links_given (Ok r) = length r.links.items
links_given (Err e) = 0

-- how many of them failed
abbrev pub links_hurt : Result LinkRun NoMemory → ℕ
links_hurt (Ok r) = sum_by failures_in r.links.items
links_hurt (Err e) = 0

-- how often the door failed
abbrev pub door_failures : Result LinkRun NoMemory → ℕ
door_failures (Ok r) = if r.door_failed then 1 else 0
door_failures (Err e) = 0

-- so many links came back to a door, of which so many had failed; its other counts stay
pub record TookBack {D : Type 0} (faults given returned hurt : D → ℕ) (d d' : D) (links failed : ℕ) : Type 0 where
  pub faults_are : faults d' ≡ faults d
  pub given_are : given d' ≡ given d
  pub returned_are : returned d' ≡ returned d + links
  pub hurt_are : hurt d' ≡ hurt d + failed

-- what a run leaves of its door: the links that it gave all came back, and it counts those that failed and its own failure
pub record LeavesDoor {D L : Type 0} (faults given returned hurt : D → ℕ) (used : D → Option (List L)) (d d' : D) (r : Result LinkRun NoMemory) : Type 0 where
  pub faults_are : faults d' ≡ faults d + door_failures r
  pub given_are : given d' ≡ given d + links_given r
  pub returned_are : returned d' ≡ returned d + links_given r
  pub hurt_are : hurt d' ≡ hurt d + links_hurt r
  -- where nothing was run no link came back
  pub unused : OnErr r (used d' ≡ used d)
