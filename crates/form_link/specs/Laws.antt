-- What the clauses of a run over links say together.
use Rattle.std.specs.Prelude.{◌≡◌, ◌≢◌, ℕ, false, List, Option, Result, ◌⊎◌, sum_by}
use Rattle.std.specs.Io.KnownBytes.{Appends}
use Rattle.edit_io.specs.Causes.{Rose}
use Rattle.line_engine.specs.declared.status.Status.{Status}
use Rattle.line_engine.specs.declared.status.Status.TheVariants.{NoMemory}
use Rattle.peer_step.specs.declared.step.Step.{Step}
use Rattle.peer_lock.specs.declared.call.Call.{Call}
use Rattle.session_core.specs.declared.fault.SessionFault.{SessionFault}
use Rattle.line_input.specs.declared.reading.InputEnd.{InputEnd}
use Rattle.line_input.specs.declared.reading.InputEnd.TheVariants.{ReadFault}
use Rattle.line_input.specs.Steps.{EndCause}
use Rattle.link_run.specs.declared.own.OwnEnd.{OwnEnd}
use Rattle.link_run.specs.Counts.{failures_in}
use Rattle.form_link.specs.Faults.{faults_of}
use Rattle.form_link.specs.Report.{link_output, SinkCause}
use Rattle.form_link.specs.Form.{DoorState, RunEnds, Serves, Dials, RanOrNot}

-- no count of faults rose: that of the source, that of the sink, and those of the door and of its links
pub record NoCountRose {L : Type 0} (source_before source_now sink_before sink_now : ℕ) (d d' : DoorState L) : Type 0 where
  pub source : ¬ Rose source_before source_now
  pub sink : ¬ Rose sink_before sink_now
  pub door : ¬ Rose d.faults d'.faults
  pub links : ¬ Rose d.hurt d'.hurt

-- the source was read, the door stood and no link failed; the report of the run was written whole, with a line for each
-- fault behind it, and their status was given
pub record ToldWhole (Ends : RunEnds) (site : ℕ) (end : InputEnd) (sink_old sink_new : Option (List ℕ)) (status : Status) : Type 0 where
  pub own : Option OwnEnd
  pub outcomes : List (Option (Result ℕ SessionFault))
  pub run : List Call
  pub written : List ℕ
  pub ends : Ends own false outcomes run
  pub read : end ≢ ReadFault
  pub unhurt : sum_by failures_in outcomes ≡ 0
  pub appends : Appends sink_old sink_new written
  pub whole : link_output site run (faults_of false end own outcomes) ≡ record { written = written; status = status }

-- where no count rose, a run that ends so is told whole, or memory was wanting
abbrev pub IsCompleteRun : {L : Type 0} → RunEnds → DoorState L → DoorState L → Type 0
IsCompleteRun Ends d d' = (site : ℕ) (end : InputEnd) (source_before source_now sink_before sink_now : ℕ) (sink_old sink_new : Option (List ℕ)) (status : Status)
    → RanOrNot Ends site end d d' sink_old sink_new status → EndCause source_before source_now end → SinkCause sink_before sink_now status
    → NoCountRose source_before source_now sink_before sink_now d d'
    → (status ≡ NoMemory) ⊎ ToldWhole Ends site end sink_old sink_new status

-- of links that are served
abbrev pub ServeCompleteness : {L : Type 0} → (L → Option (List (List ℕ))) → (L → Option (List (List ℕ))) → (L → ℕ) → (L → ℕ) → Type 0
ServeCompleteness {L} got sent faults closes = (site links : ℕ) (steps : List Step) (d d' : DoorState L)
    → IsCompleteRun (Serves got sent faults closes site links steps d d') d d'

-- of a link that is dialled
abbrev pub DialCompleteness : {L : Type 0} → (L → Option (List (List ℕ))) → (L → Option (List (List ℕ))) → (L → ℕ) → (L → ℕ) → Type 0
DialCompleteness {L} got sent faults closes = (site rounds : ℕ) (end : InputEnd) (steps : List Step) (d d' : DoorState L)
    → IsCompleteRun (Dials got sent faults closes site rounds end steps d d') d d'
