-- Why a run stops, and which count of faults a stop raises.
use Rattle.std.specs.Prelude.{◌≡◌, ℕ, ◌≤◌, Bool, true, false, Result, Ok, Err, IsErrOf, if◌then◌else◌}
use Rattle.edit_io.specs.Causes.{Rose, next_count}
use Rattle.line_engine.specs.declared.status.Status.{Status}
use Rattle.line_engine.specs.declared.status.Status.TheVariants as statuses
use Rattle.line_engine.specs.Engine.{StatusCause}
use Rattle.peer_store.specs.declared.fault.StoreFault.{StoreFault}
use Rattle.peer_store.specs.declared.fault.StoreFault.TheVariants as faults
use Rattle.form_keep.specs.declared.stopped.Stopped.{Stopped}
use Rattle.form_keep.specs.declared.stopped.Stopped.TheVariants.{BadLine, TooLong, ReadFault, WriteFault, NoMemory, DiskFault, BadStore, StoreFull}

-- why a run stops where a store gives up; an earlier fault of the disk is one too
abbrev pub stop_of_fault : StoreFault → Stopped
stop_of_fault faults.DiskFault = DiskFault
stop_of_fault (faults.NotAStore offset) = BadStore offset
stop_of_fault faults.Spent = DiskFault
stop_of_fault faults.StoreFull = StoreFull
stop_of_fault faults.NoMemory = NoMemory

-- a run stops for a fault of the source
abbrev pub is_read_fault : Stopped → Bool
is_read_fault ReadFault = true
is_read_fault stopped = false

-- a run stops for a fault of the sink
abbrev pub is_write_fault : Stopped → Bool
is_write_fault WriteFault = true
is_write_fault stopped = false

-- a count of faults after a call that answered so: one more at the stops that it counts
abbrev pub faults_behind : {T : Type 0} → (Stopped → Bool) → ℕ → Result T Stopped → ℕ
faults_behind counts before (Ok x) = before
faults_behind counts before (Err stopped) = if counts stopped then next_count before else before

-- a count of faults never falls, and counts these stops
pub record CountsStops {T : Type 0} (counts : Stopped → Bool) (before now : ℕ) (result : Result T Stopped) : Type 0 where
  pub later : before ≤ now
  pub counted : now ≡ faults_behind counts before result

-- a source counts one fault more at a read fault, and none at another outcome
abbrev pub ReadCause : {T : Type 0} → ℕ → ℕ → Result T Stopped → Type 0
ReadCause before now result = CountsStops is_read_fault before now result

-- a sink counts one fault more at a write fault, and none at another outcome
abbrev pub WriteCause : {T : Type 0} → ℕ → ℕ → Result T Stopped → Type 0
WriteCause before now result = CountsStops is_write_fault before now result

-- a disk's count never falls, and a disk fault comes only where it rose
pub record KeepCause {T : Type 0} (before now : ℕ) (result : Result T Stopped) : Type 0 where
  pub later : before ≤ now
  pub rose : IsErrOf result DiskFault → Rose before now

-- the status that tells of a stop: after a fault of the source or the sink, or for want of memory, nothing is written
abbrev pub TellCause : ℕ → ℕ → Stopped → Status → Type 0
TellCause before now ReadFault status = (now ≡ before) × (status ≡ statuses.ReadFault)
TellCause before now WriteFault status = (now ≡ before) × (status ≡ statuses.WriteFault)
TellCause before now NoMemory status = (now ≡ before) × (status ≡ statuses.NoMemory)
TellCause before now (BadLine number) status = StatusCause before now status statuses.WriteFault
TellCause before now TooLong status = StatusCause before now status statuses.WriteFault
TellCause before now DiskFault status = StatusCause before now status statuses.WriteFault
TellCause before now (BadStore offset) status = StatusCause before now status statuses.WriteFault
TellCause before now StoreFull status = StatusCause before now status statuses.WriteFault
