-- What a watch writes.
use Rattle.std.specs.Prelude.{ℕ, ◌+◌, List, [], ◌++◌, Option, length, flat_map, nat_lt, if◌then◌else◌}
use Rattle.line_engine.specs.declared.status.Status.{Status}
use Rattle.line_engine.specs.declared.status.Status.TheVariants as status
use Rattle.line_engine.specs.Output.{Output, bad_line, too_long}
use Rattle.line_engine.specs.Engine.{Says}
use Rattle.peer_step.specs.declared.step.Step.{Step}
use Rattle.line_input.specs.declared.reading.InputEnd.{InputEnd}
use Rattle.line_input.specs.declared.reading.InputEnd.TheVariants.{Whole, BadLine, TooLong, ReadFault, NoMemory}
use Rattle.report_run.specs.Report.{report}
use Rattle.form_watch.specs.declared.limits.TheConstants.{MAX_LINES}
use Rattle.form_watch.specs.Run.{watch_run}
use Rattle.form_watch.specs.Reads.{page_line_after, AreReads}

-- all of these bytes, with Done
abbrev pub done_with : List ℕ → Output
done_with bytes = record { written = bytes; status = status.Done }

-- the report of the run, and then the line of each read, by how many steps it saw
abbrev pub watch_text : ℕ → List Step → List ℕ → List ℕ
watch_text site steps seen = report site (watch_run steps) ++ flat_map (page_line_after site (watch_run steps)) seen

-- what is written of an input that ended so, by what is written of a whole one
abbrev pub end_output : List ℕ → InputEnd → Output
end_output bytes Whole = done_with bytes
end_output bytes (BadLine k) = bad_line k
end_output bytes TooLong = too_long
end_output bytes ReadFault = record { written = []; status = status.ReadFault }
end_output bytes NoMemory = record { written = []; status = status.NoMemory }

-- how the input of a watch ends, of which so many steps were read before it ended so: a line more than it takes is bad
abbrev pub watch_end : ℕ → InputEnd → InputEnd
watch_end many NoMemory = NoMemory
watch_end many end = if nat_lt MAX_LINES many then BadLine (MAX_LINES + 1) else end

-- what was written of these steps, whose input ended so, and of some reads beside them
pub record WroteWatch (site reads : ℕ) (steps : List Step) (end : InputEnd) (sink_old sink_new : Option (List ℕ)) (status : Status) : Type 0 where
  pub seen : List ℕ
  pub written : List ℕ
  pub are_reads : AreReads reads (watch_run steps) seen
  pub says : Says sink_old sink_new status (end_output (watch_text site steps seen) end) written

-- a watch of the steps that were read of an input, and of how reading ended
abbrev pub Watches : ℕ → ℕ → List Step → InputEnd → Option (List ℕ) → Option (List ℕ) → Status → Type 0
Watches site reads steps end sink_old sink_new status = WroteWatch site reads steps (watch_end (length steps) end) sink_old sink_new status
