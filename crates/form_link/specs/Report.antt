-- What is written of a run over links.
use Rattle.std.specs.Prelude.{◌≡◌, ◌≢◌, ℕ, ◌≤◌, List, ◌++◌, flat_map}
use Rattle.edit_io.specs.Causes.{next_count}
use Rattle.line_engine.specs.declared.status.Status.{Status}
use Rattle.line_engine.specs.declared.status.Status.TheVariants.{WriteFault, NoMemory}
use Rattle.line_engine.specs.Output.{Output}
use Rattle.peer_lock.specs.declared.call.Call.{Call}
use Rattle.report_run.specs.Report.{report}
use Rattle.form_link.specs.declared.faults.Fault.{Fault}
use Rattle.form_link.specs.Lines.{fault_line, faults_status}

-- the report of a run, the lines of the faults that were met behind it, and their status
abbrev pub link_output : ℕ → List Call → List Fault → Output
link_output site run faults = record { written = report site run ++ flat_map fault_line faults; status = faults_status faults }

-- a sink's count of faults never falls: a write fault counts one more, and every other status leaves it, but for want of
-- memory, which goes before a write fault
pub record SinkCause (before now : ℕ) (status : Status) : Type 0 where
  pub later : before ≤ now
  pub rose : status ≡ WriteFault → now ≡ next_count before
  pub stayed : status ≢ WriteFault → status ≢ NoMemory → now ≡ before
