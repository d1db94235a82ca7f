-- The numbers of the statuses, and which status a failure gives.
use Rattle.std.specs.Prelude.{◌≡◌, ℕ, ◌⊎◌}
use Rattle.line_engine.specs.declared.status.Status.{Status}
use Rattle.line_engine.specs.declared.status.Status.TheVariants.{Done, Usage, BadInput, ReadFault, WriteFault, LinkFault, NoMemory, TooLong, NotShown, DiskFault, BadStore, StoreFull}
use Rattle.line_engine.specs.declared.status.Stop.{Stop}
use Rattle.line_engine.specs.declared.status.Stop.TheVariants as stops
use Rattle.edit_io.specs.declared.fail.OutFail.{OutFail}
use Rattle.edit_io.specs.declared.fail.OutFail.TheVariants as out_fail

-- a status as an exit code
abbrev pub code_of : Status → ℕ
code_of Done = 0
code_of Usage = 2
code_of BadInput = 3
code_of ReadFault = 4
code_of WriteFault = 5
code_of LinkFault = 6
code_of NoMemory = 7
code_of TooLong = 8
code_of NotShown = 9
code_of DiskFault = 10
code_of BadStore = 11
code_of StoreFull = 12

-- a status that a sink's failure gives
abbrev pub IsSinkFail : Status → Type 0
IsSinkFail status = (status ≡ WriteFault) ⊎ (status ≡ NoMemory)

-- why a sink's failure stops a run
abbrev pub stop_of : OutFail → Stop
stop_of out_fail.Failed = stops.WriteFault
stop_of out_fail.NoMemory = stops.NoMemory

-- the status of a run that was stopped
abbrev pub status_of : Stop → Status
status_of stops.BadInput = BadInput
status_of stops.WriteFault = WriteFault
status_of stops.NoMemory = NoMemory
