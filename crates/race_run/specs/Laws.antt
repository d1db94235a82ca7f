-- What a race writes, case by case.
use Rattle.std.specs.Prelude.{ℕ, List}
use Rattle.peer_lock.specs.declared.call.Call.{Call}
use Rattle.report_run.specs.Report.{report}
use Rattle.race_run.specs.SilenceLaws.{IsAlone}
use Rattle.race_run.specs.Form.{race_output}

-- the report alone, or the line alone that says which line is bad or that the input is too long
abbrev pub AloneLaw : Type 0
AloneLaw = (site : ℕ) (run : List Call) (input : List ℕ) → IsAlone (report site run) (race_output site run input)
