-- What the host's peer is, and what a page of its journal shows.
use Rattle.std.proofs.Common.{◌≡◌, List, [], ◌∷◌, refl, ap, sym, subst, ◌∙◌}
use Rattle.std.specs.Prelude.{fold}
use Rattle.std.proofs.lemmas.List.Sums.{fold_push}
use Rattle.peer_tables.specs.Laws.{SetLaw}
use Rattle.peer_core.specs.Peer.{Peer}
use Rattle.peer_core.specs.After.{peer_after}
use Rattle.host_core.specs.declared.event.HostEvent.{HostEvent}
use Rattle.host_core.specs.declared.event.HostEvent.TheVariants.{Began, Made}
use Rattle.host_core.specs.Past.{first_peer, host_peer}
use Rattle.host_core.specs.Laws.{steps_made, ReplayLaw, PageLaw}

-- a host begins by one event
pub replay : ReplayLaw
replay [] h = refl
replay (Began p document ∷ es) h = subst (λ (fs : List HostEvent). p ≡ fold peer_after p (steps_made fs)) (sym h.0) refl
replay (Made by step ∷ es) h = ap (λ (p : Peer). peer_after p step) (replay es h.1) ∙ sym (fold_push peer_after (first_peer es) (steps_made es) step)
replay (e ∷ es) h = replay es h.1

-- a page of the same requests and the same log looks alike
pub page : SetLaw → PageLaw
page sets es r h sound has =
    (sets r.journal (host_peer es).journal (record { first = has.journal; second = sound.journal; forth = has.forth; back = has.back; logs = has.log })).texts
