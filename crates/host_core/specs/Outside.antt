-- Refusals that what has happened doesn't tell.
use Rattle.std.specs.Prelude.{◌≡◌, Option, Some, None}
use Rattle.host_core.specs.declared.keeper.KeepFail.{KeepFail}
use Rattle.host_core.specs.declared.keeper.KeepFail.TheVariants as fails
use Rattle.host_core.specs.declared.refusal.Refusal.{Refusal}
use Rattle.host_core.specs.declared.refusal.Refusal.TheVariants.{StoreFull, DiskFault, NoMemory}

-- the refusal where the keeper gave up
abbrev pub refusal_for : KeepFail → Refusal
refusal_for fails.Full = StoreFull
refusal_for fails.NoMemory = NoMemory
refusal_for fails.Failed = DiskFault

-- a refusal is the one that is told; or none is, and the store is full, the disk failed, or memory is wanting
abbrev pub IsFor : Refusal → Option Refusal → Type 0
IsFor StoreFull told = told ≡ None
IsFor DiskFault told = told ≡ None
IsFor NoMemory told = told ≡ None
IsFor refusal told = told ≡ Some refusal

-- where no keeper is asked: a refusal is the one that is told; or none is, and memory is wanting
abbrev pub IsForOrWantsMemory : Refusal → Option Refusal → Type 0
IsForOrWantsMemory NoMemory told = told ≡ None
IsForOrWantsMemory refusal told = told ≡ Some refusal
