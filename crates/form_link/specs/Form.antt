-- What a form that runs a peer over links leaves.
use Rattle.std.specs.Prelude.{◌≡◌, ◌≢◌, ℕ, ◌+◌, ◌<◌, Bool, false, List, [], Option, Result, ◌⊎◌, length, sum_by, if◌then◌else◌}
use Rattle.line_engine.specs.declared.status.Status.{Status}
use Rattle.line_engine.specs.declared.status.Status.TheVariants.{LinkFault, NoMemory}
use Rattle.line_engine.specs.Engine.{Says}
use Rattle.peer_step.specs.declared.step.Step.{Step}
use Rattle.peer_lock.specs.declared.call.Call.{Call}
use Rattle.session_core.specs.declared.fault.SessionFault.{SessionFault}
use Rattle.link_run.specs.declared.own.OwnEnd.{OwnEnd}
use Rattle.line_input.specs.declared.reading.InputEnd.{InputEnd}
use Rattle.line_input.specs.declared.reading.InputEnd.TheVariants as input_end
use Rattle.line_input.specs.Steps.{ReadSteps, EndCause}
use Rattle.link_run.specs.Ends.{ServeEnds, DialEnds, AloneEnds}
use Rattle.link_run.specs.Counts.{failures_in}
use Rattle.form_link.specs.Faults.{faults_of}
use Rattle.form_link.specs.Report.{link_output}

-- what a door has counted, and the links that came back to it
pub record DoorState (L : Type 0) : Type 0 where
  pub faults : ℕ
  pub given : ℕ
  pub returned : ℕ
  pub hurt : ℕ
  pub used : Option (List L)

abbrev pub door_state : {L : Type 0} → ℕ → ℕ → ℕ → ℕ → Option (List L) → DoorState L
door_state faults given returned hurt used = record { faults = faults; given = given; returned = returned; hurt = hurt; used = used }

-- the door failed or didn't, gave a link for each outcome, and each came back
pub record DoorAfter {L : Type 0} (d d' : DoorState L) (failed : Bool) (outcomes : List (Option (Result ℕ SessionFault))) : Type 0 where
  pub faults_are : d'.faults ≡ d.faults + (if failed then 1 else 0)
  pub given_are : d'.given ≡ d.given + length outcomes
  pub returned_are : d'.returned ≡ d.returned + length outcomes
  pub hurt_are : d'.hurt ≡ d.hurt + sum_by failures_in outcomes

-- what a run over links leaves: how the own steps ended, whether the door failed, how the sessions on the links ended, and the run
abbrev pub RunEnds : Type 1
RunEnds = Option OwnEnd → Bool → List (Option (Result ℕ SessionFault)) → List Call → Type 0

-- links were served beside these steps
abbrev pub Serves : {L : Type 0} → (L → Option (List (List ℕ))) → (L → Option (List (List ℕ))) → (L → ℕ) → (L → ℕ) → ℕ → ℕ → List Step → DoorState L → DoorState L → RunEnds
Serves got sent faults closes site links steps d d' = ServeEnds got sent faults closes site links steps d.used d'.used

-- a link was dialled behind these steps; where their input had a fault none was asked for
abbrev pub Dials : {L : Type 0} → (L → Option (List (List ℕ))) → (L → Option (List (List ℕ))) → (L → ℕ) → (L → ℕ) → ℕ → ℕ → InputEnd → List Step → DoorState L → DoorState L → RunEnds
Dials got sent faults closes site rounds input_end.Whole steps d d' = DialEnds got sent faults closes site rounds steps d.used d'.used
Dials got sent faults closes site rounds end steps d d' = λ own failed outcomes run. AloneEnds steps own failed outcomes run × (d'.used ≡ d.used)

-- reading had memory, a run was made, and its report was written and the faults that were met behind it
pub record ToldRun {L : Type 0} (Ends : RunEnds) (site : ℕ) (end : InputEnd) (d d' : DoorState L) (sink_old sink_new : Option (List ℕ)) (status : Status) : Type 0 where
  pub had_memory : end ≢ input_end.NoMemory
  pub own : Option OwnEnd
  pub door_failed : Bool
  pub outcomes : List (Option (Result ℕ SessionFault))
  pub run : List Call
  pub written : List ℕ
  pub ends : Ends own door_failed outcomes run
  pub door : DoorAfter d d' door_failed outcomes
  pub says : Says sink_old sink_new status (link_output site run (faults_of door_failed end own outcomes)) written

-- memory was wanting before a run: nothing was written, and the door wasn't asked
pub record NothingRun {L : Type 0} (d d' : DoorState L) (sink_old sink_new : Option (List ℕ)) (status : Status) : Type 0 where
  pub status_is : status ≡ NoMemory
  pub silent : sink_new ≡ sink_old
  pub idle : DoorAfter d d' false []
  pub unused : d'.used ≡ d.used

-- a run was told, or there was none for want of memory, as wherever reading the input ended so
abbrev pub RanOrNot : {L : Type 0} → RunEnds → ℕ → InputEnd → DoorState L → DoorState L → Option (List ℕ) → Option (List ℕ) → Status → Type 0
RanOrNot Ends site end d d' sink_old sink_new status = ToldRun Ends site end d d' sink_old sink_new status ⊎ NothingRun d d' sink_old sink_new status

-- an input was read to its end, to its first fault or until memory was wanting, and its steps were run over a door, or nothing was run
pub record ReadAndRan {L : Type 0} (Ends : List Step → InputEnd → RunEnds) (site : ℕ) (left left' : Option (List ℕ)) (faults faults' : ℕ) (sink sink' : Option (List ℕ)) (d d' : DoorState L) (status : Status) : Type 0 where
  pub input : List ℕ
  pub steps : List Step
  pub end : InputEnd
  pub read : ReadSteps left left' input steps end
  pub read_cause : EndCause faults faults' end
  pub ran : RanOrNot (Ends steps end) site end d d' sink sink' status

-- a link fault is answered only where the door's count of failures grew, or that of links that failed
abbrev pub HasLinkCause : ℕ → ℕ → ℕ → ℕ → Status → Type 0
HasLinkCause faults faults' hurt hurt' status = status ≡ LinkFault → (faults < faults') ⊎ (hurt < hurt')
