-- Why a document isn't renewed, by what gave up.
use Rattle.std.specs.Prelude.{Bool, true, false}
use Rattle.host_core.specs.declared.keeper.KeepFail.{KeepFail}
use Rattle.host_core.specs.declared.keeper.KeepFail.TheVariants as keeps
use Rattle.peer_renewal.specs.declared.fail.RenewFail.{RenewFail}
use Rattle.peer_renewal.specs.declared.fail.RenewFail.TheVariants as fails
use Rattle.host_renewal.specs.declared.fault.RenewalFault.{RenewalFault}
use Rattle.host_renewal.specs.declared.fault.RenewalFault.TheVariants as faults

-- why a document isn't renewed of whose peer no renewal is found
abbrev pub renewal_fault : RenewFail → RenewalFault
renewal_fault fails.TooManyPieces = faults.TooManyPieces
renewal_fault fails.TooManyEntries = faults.TooManyEntries
renewal_fault fails.NotAlike = faults.NotAlike
renewal_fault fails.NoMemory = faults.NoMemory

-- why it isn't whose keeper gives up
abbrev pub keeper_fault : KeepFail → RenewalFault
keeper_fault keeps.Full = faults.StoreFull
keeper_fault keeps.NoMemory = faults.NoMemory
keeper_fault keeps.Failed = faults.DiskFault

-- whether it is that a new document has no room for what the old one shows, or for its rules
abbrev pub is_limit : RenewalFault → Bool
is_limit faults.TooManyPieces = true
is_limit faults.TooManyEntries = true
is_limit fault = false
