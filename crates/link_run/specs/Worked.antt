-- What each worker leaves.
use Rattle.std.specs.Prelude.{ℕ, Bool, List, Option, Some, None, Result}
use Rattle.peer_step.specs.declared.step.Step.{Step}
use Rattle.peer_lock.specs.declared.view.View.{View}
use Rattle.peer_lock.specs.Answers.{IsSame, KnowsFull}
use Rattle.peer_lock.specs.Made.{Made, MadeFirst}
use Rattle.session_core.specs.declared.fault.SessionFault.{SessionFault}
use Rattle.session_core.specs.Events.{serving}
use Rattle.session_core.specs.Session.{side, Session, LeavesSide}
use Rattle.link_run.specs.declared.own.OwnEnd.{OwnEnd}
use Rattle.link_run.specs.declared.own.OwnEnd.TheVariants.{Done, RunFull, NoMemory}
use Rattle.link_run.specs.declared.job.Job.{Job}

-- it has made all steps of a list, or, where it was cut, the first ones
abbrev pub MakesOwn : View → View → List Step → OwnEnd → Type 0
MakesOwn v w steps Done = Made v w steps
MakesOwn v w steps RunFull = KnowsFull w × MadeFirst v w steps
MakesOwn v w steps NoMemory = MadeFirst v w steps

-- the session on the link of a job has ended so
abbrev pub EndedSo : {L : Type 0} → (L → Option (List (List ℕ))) → (L → Option (List (List ℕ))) → (L → ℕ) → (L → ℕ) → Bool → Job L → Job L → Option (Result ℕ SessionFault) → Type 0
EndedSo got sent faults closes validates a b None = ⊥
EndedSo got sent faults closes validates a b (Some r) =
    Session (serving validates) (side a.pass (got a.link) (sent a.link)) (side b.pass (got b.link) (sent b.link)) r
    × LeavesSide closes faults a.pass b.pass a.link b.link r

-- a worker has served the link of a job to its end, and noted how it ended
pub record Worked {L : Type 0} (got sent : L → Option (List (List ℕ))) (faults closes : L → ℕ) (validates : Bool) (a b : Job L) : Type 0 where
  pub same : IsSame a.pass b.pass
  pub ended : EndedSo got sent faults closes validates a b b.outcome
