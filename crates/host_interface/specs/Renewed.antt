-- What a document gives way to.
use Rattle.std.specs.Prelude.{◌≡◌, List}
use Rattle.peer_core.specs.Peer.{Peer}
use Rattle.peer_renewal.specs.Renewal.{IsRenewalOf}
use Rattle.host_core.specs.declared.event.HostEvent.{HostEvent}
use Rattle.host_core.specs.Past.{host_peer}
use Rattle.host_seal.specs.declared.seal.Seal.{Seal}
use Rattle.host_seal.specs.Seals.{seal_of}

-- a seal is that of the whole journal of a peer's renewal
pub record IsSealOfRenewal (old : Peer) (seal : Seal) : Type 0 where
  pub new : Peer
  pub renewal : IsRenewalOf old new
  pub sealed : seal ≡ seal_of new.journal

-- the same of a document's host
abbrev pub IsRenewedBy : List HostEvent → Seal → Type 0
IsRenewedBy past seal = IsSealOfRenewal (host_peer past) seal
