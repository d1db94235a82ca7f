-- What the top call does that may start threads and talk to other programs.
use Rattle.std.specs.Prelude.{◌≡◌, ℕ, List, Option, Some}
use Rattle.line_engine.specs.declared.status.Status.{Status}
use Rattle.line_engine.specs.declared.status.Status.TheVariants.{ReadFault, WriteFault}
use Rattle.line_engine.specs.Engine.{StatusCause}
use Rattle.peer_step.specs.declared.step.Step.{Step}
use Rattle.peer_lock.specs.declared.call.Call.{Call}
use Rattle.race_run.specs.Form.{RanRace}
use Rattle.form_watch.specs.Watch.{Watches}
use Rattle.line_input.specs.declared.reading.InputEnd.{InputEnd}
use Rattle.line_input.specs.Steps.{ReadSteps, EndCause}
use Rattle.form_link.specs.Report.{SinkCause}
use Rattle.form_link.specs.Form.{DoorState, Serves, Dials, RunEnds, RanOrNot, HasLinkCause}
use Rattle.editor_main.specs.declared.command.Command.{Command}
use Rattle.editor_main.specs.declared.command.Command.TheVariants.{Race, Serve, Dial, Watch}
use Rattle.editor_main.specs.Plain.{RanPlain}

-- a source, or a sink: what it tells of its bytes, and its count of faults
pub record StreamState : Type 0 where
  pub bytes : Option (List ℕ)
  pub faults : ℕ

abbrev pub stream_state : Option (List ℕ) → ℕ → StreamState
stream_state bytes faults = record { bytes = bytes; faults = faults }

-- a call that asks no door: it is as before, and the faults of the source and of the sink have their causes
pub record AsksNoDoor {L : Type 0} (source source' sink sink' : StreamState) (door door' : DoorState L) (status : Status) : Type 0 where
  pub door_is : door' ≡ door
  pub read_cause : StatusCause source.faults source'.faults status ReadFault
  pub write_cause : StatusCause sink.faults sink'.faults status WriteFault

-- A call that runs a peer over links: the steps are those of the input, the run is told with the faults that were met,
-- and the faults of the source, of the sink and of links have their causes.
pub record RanLinks {L : Type 0} (Ends : InputEnd → List Step → RunEnds) (site : ℕ) (source source' sink sink' : StreamState) (door door' : DoorState L) (status : Status) : Type 0 where
  pub input : List ℕ
  pub steps : List Step
  pub end : InputEnd
  pub read : ReadSteps source.bytes source'.bytes input steps end
  pub read_cause : EndCause source.faults source'.faults end
  pub ran : RanOrNot (Ends end steps) site end door door' sink.bytes sink'.bytes status
  pub write_cause : SinkCause sink.faults sink'.faults status
  pub link_cause : HasLinkCause door.faults door'.faults door.hurt door'.hurt status

-- A call that watches: the steps are those of the input, what is written is that of a watch of them, the faults of the
-- source and of the sink have their causes, and no door is asked.
pub record RanWatch {L : Type 0} (site reads : ℕ) (source source' sink sink' : StreamState) (door door' : DoorState L) (status : Status) : Type 0 where
  pub input : List ℕ
  pub steps : List Step
  pub end : InputEnd
  pub read : ReadSteps source.bytes source'.bytes input steps end
  pub read_cause : EndCause source.faults source'.faults end
  pub watched : Watches site reads steps end sink.bytes sink'.bytes status
  pub write_cause : StatusCause sink.faults sink'.faults status WriteFault
  pub door_is : door' ≡ door

-- what the top call does for a command: what the plain call does, where no threads and no other programs take part
abbrev pub EditorEnds : {L : Type 0} → (L → Option (List (List ℕ))) → (L → Option (List (List ℕ))) → (L → ℕ) → (L → ℕ)
    → Option Command → StreamState → StreamState → StreamState → StreamState → DoorState L → DoorState L → Status → Type 0
EditorEnds got sent faults closes (Some (Race site)) source source' sink sink' door door' status =
    ((input : List ℕ) × (written : List ℕ) × (run : List Call) × RanRace site source.bytes source'.bytes sink.bytes sink'.bytes status input written run)
    × AsksNoDoor source source' sink sink' door door' status
EditorEnds got sent faults closes (Some (Serve site port links)) source source' sink sink' door door' status =
    RanLinks (λ end steps. Serves got sent faults closes site links steps door door') site source source' sink sink' door door' status
EditorEnds got sent faults closes (Some (Dial site port rounds)) source source' sink sink' door door' status =
    RanLinks (λ end steps. Dials got sent faults closes site rounds end steps door door') site source source' sink sink' door door' status
EditorEnds got sent faults closes (Some (Watch site reads)) source source' sink sink' door door' status =
    RanWatch site reads source source' sink sink' door door' status
EditorEnds got sent faults closes command source source' sink sink' door door' status =
    ((input : List ℕ) × (written : List ℕ) × RanPlain command source.bytes source'.bytes sink.bytes sink'.bytes status input written)
    × AsksNoDoor source source' sink sink' door door' status
