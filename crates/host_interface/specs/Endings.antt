-- Why a link ends that a host refuses.
use Rattle.host_core.specs.declared.refusal.Refusal.{Refusal}
use Rattle.host_core.specs.declared.refusal.Refusal.TheVariants as refusals
use Rattle.host_link.specs.declared.ending.Ending.{Ending}
use Rattle.host_link.specs.declared.ending.Ending.TheVariants as endings

-- why a link ends whose host refuses so
abbrev pub ending_of : Refusal → Ending
ending_of refusals.OtherDocument = endings.OtherDocument
ending_of refusals.WrongSecret = endings.WrongSecret
ending_of refusals.AheadOfHost = endings.AheadOfHost
ending_of refusals.NoLink = endings.NoDocument
ending_of refusals.ReadsAlone = endings.OnlyReads
ending_of refusals.ForgedSite = endings.ForgedSite
ending_of refusals.EntryOffered = endings.EntryOffered
ending_of refusals.NotAllowed = endings.OnlyReads
ending_of refusals.StampAhead = endings.StampAhead
ending_of (refusals.Misses missing) = endings.Misses
ending_of refusals.DeniedTooOften = endings.DeniedTooOften
ending_of refusals.OwnersReserve = endings.OwnersReserve
ending_of refusals.NoPerson = endings.WrongSecret
ending_of refusals.NoDevice = endings.WrongSecret
ending_of refusals.NumbersUsedUp = endings.TooManyDevices
ending_of refusals.StoreFull = endings.StoreFull
ending_of refusals.DiskFault = endings.DiskFault
ending_of refusals.NoMemory = endings.NoMemory
