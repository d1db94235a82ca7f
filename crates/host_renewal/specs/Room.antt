-- What a new document has no room for.
use Rattle.std.specs.Prelude.{◌<◌, length}
use Rattle.std.specs.List.{concat}
use Rattle.element_name.specs.declared.limits.TheConstants.{MAX_VERSION}
use Rattle.coop_request.specs.declared.request.TheConstants.{MAX_REQUESTS}
use Rattle.peer_core.specs.Peer.{Peer, text}
use Rattle.peer_renewal.specs.Renewal.{entries_needed}

-- a peer's text has more bytes than a history may have requests
abbrev pub IsTooLong : Peer → Type 0
IsTooLong peer = MAX_REQUESTS < length (concat (text peer))

-- its rules take more entries than a log may have
abbrev pub IsTooRuled : Peer → Type 0
IsTooRuled peer = MAX_VERSION < entries_needed peer
