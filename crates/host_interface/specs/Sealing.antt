-- What was sealed of a document.
use Rattle.std.specs.Prelude.{◌≡◌, ⊤, List, Option, Some, None}
use Rattle.host_core.specs.declared.event.HostEvent.{HostEvent}
use Rattle.host_core.specs.Past.{saved_journal}
use Rattle.host_seal.specs.declared.seal.Seal.{Seal}
use Rattle.host_seal.specs.Seals.{seal_of, IsSealed}

-- a seal is that of what is saved
abbrev pub IsSealOf : Seal → List HostEvent → Type 0
IsSealOf seal past = seal ≡ seal_of (saved_journal past)

-- a document that was opened has saved messages that begin with what was sealed, if something was
abbrev pub IsOpenedBy : Option Seal → Option (List HostEvent) → Type 0
IsOpenedBy None document = ⊤
IsOpenedBy (Some seal) None = ⊥
IsOpenedBy (Some seal) (Some past) = IsSealed seal (saved_journal past)
