-- What a race writes of an input.
use Rattle.std.specs.Prelude.{◌≡◌, ℕ, List, [], Option, ⊤}
use Rattle.line_engine.specs.declared.status.Status.{Status}
use Rattle.line_engine.specs.declared.status.Status.TheVariants.{ReadFault}
use Rattle.line_engine.specs.Output.{Output}
use Rattle.line_engine.specs.Engine.{Ran}
use Rattle.peer_lock.specs.declared.call.Call.{Call}
use Rattle.report_run.specs.Report.{report}
use Rattle.race_run.specs.Lists.{WorkLists, lists_of, output_with, list_part}
use Rattle.race_run.specs.Race.{IsRaceOf}

-- what is written of an input of good lines is the report of this run
abbrev pub race_output : ℕ → List Call → List ℕ → Output
race_output site run input = output_with (report site run) input

-- a run of the steps of an input: each worker has made its list
abbrev pub IsRaceOn : List ℕ → List Call → Type 0
IsRaceOn input run = IsRaceOf (lists_of input).edits (lists_of input).arrivals (lists_of input).operations run

-- A race over a source that had this input and a sink that was given these bytes, with this run.
-- Of a source that doesn't tell its bytes there are some of which this holds, and of a sink likewise.
pub record RanRace (site : ℕ) (left_old left_new sink_old sink_new : Option (List ℕ)) (status : Status) (input written : List ℕ) (run : List Call) : Type 0 where
  pub ran : Ran (race_output site run) list_part (λ cut bytes. ⊤) left_old left_new sink_old sink_new status input written
  pub race : IsRaceOn input run
  pub silent : status ≡ ReadFault → written ≡ []
