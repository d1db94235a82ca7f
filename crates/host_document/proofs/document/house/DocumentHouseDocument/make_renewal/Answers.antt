use Rattle.std.proofs.Common.{◌≡◌, List, Option, Some, IsSomeAnd, sym, subst}
use Rattle.peer_core.specs.Peer.{Peer}
use Rattle.host_core.specs.declared.event.HostEvent.{HostEvent}
use Rattle.host_core.specs.Past.{host_peer}
use Rattle.host_renewal.specs.Room.{IsTooLong}
use Rattle.host_document.proofs.document.house.DocumentHouseDocument.make_renewal.Goals as goal

pub returns-in-Some-clause-too_many_pieces : goal.returns-in-Some-clause-too_many_pieces
returns-in-Some-clause-too_many_pieces c = λ too_long.
    let same : c.args.self.now ≡ Some c.in-Some.opened = cc (c.self.view_is) in
    subst (λ (document : Option (List HostEvent)). IsSomeAnd document (λ past. IsTooLong (host_peer past))) (sym same)
    (subst (λ (peer : Peer). IsTooLong peer) c.peer.ensures (c.renewal_in.ensures.too_many_pieces too_long))
