-- Links that were taken from a door.
use Rattle.std.specs.Prelude.{◌≡◌, ℕ, ◌+◌, ◌<◌, List, [], ◌∷◌, Option, None}
use Rattle.edit_io.specs.Causes.{last_count}
use Rattle.edit_io.specs.Door.{IsUnused, hurt_by}
use Rattle.link_run.specs.declared.job.Job.{Job}

-- a door can count one more fault, and more links than so many
pub record HasRoomForLinks (links faults given : ℕ) : Type 0 where
  pub faults_left : faults < last_count
  pub given_left : given + links < last_count

-- a job whose link nothing went over yet, and whose session has no end yet
pub record IsUnservedJob {L : Type 0} (got sent : L → Option (List (List ℕ))) (faults closes : L → ℕ) (j : Job L) : Type 0 where
  pub unused : IsUnused (faults j.link) (closes j.link) (got j.link) (sent j.link)
  pub unended : j.outcome ≡ None

-- how many of these links have failed
abbrev pub hurt_among : {L : Type 0} → (L → ℕ) → List L → ℕ
hurt_among faults [] = 0
hurt_among faults (link ∷ links) = hurt_by (faults link) + hurt_among faults links
