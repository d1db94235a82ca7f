-- What a host keeps where its keeper changes.
use Rattle.std.proofs.Common.{◌≡◌, List, [], ◌∷◌, ap, sym, subst, ◌∙◌}
use Rattle.std.specs.declared.option.Option.{Option}
use Rattle.edit_message.specs.declared.message.Message.{Message}
use Rattle.peer_step.specs.declared.step.Step.{Step}
use Rattle.peer_core.specs.Peer.{Peer}
use Rattle.peer_core.specs.After.{peer_after}
use Rattle.host_core.specs.declared.event.LinkId.{LinkId}
use Rattle.host_core.specs.declared.event.HostEvent.{HostEvent}
use Rattle.host_core.specs.declared.event.HostEvent.TheVariants.{Began, Made}
use Rattle.host_core.specs.Past.{host_peer}
use Rattle.host_core.proofs.Truncated.{follows}

-- a keeper's peer is that of what has happened
abbrev pub SamePeer : Peer → List HostEvent → Type 0
SamePeer p es = Began p [] ∷ [] ≡ Began (host_peer es) [] ∷ []

abbrev pub began : Peer → List HostEvent
began p = Began p [] ∷ []

-- and is the very peer
pub same_peer : (p : Peer) (es : List HostEvent) → SamePeer p es → p ≡ host_peer es
same_peer p es h = cc

-- after a step
pub made_peer : (p q : Peer) (by : Option LinkId) (step : Step) (es new : List HostEvent) → SamePeer p es → q ≡ peer_after p step → new ≡ Made by step ∷ es → SamePeer q new
made_peer p q by step es new h after grown = ap began (after ∙ ap (λ (r : Peer). peer_after r step) (same_peer p es h) ∙ sym (ap host_peer grown))

-- where the peer and what has happened of it stay
pub kept_peer : (p q : Peer) (es new : List HostEvent) → SamePeer p es → q ≡ p → host_peer new ≡ host_peer es → SamePeer q new
kept_peer p q es new h same stays = ap began (same ∙ same_peer p es h ∙ sym stays)

-- what is kept is kept where what was saved stays
pub kept_still : {K : Type 0} (keeps : K → List Message → Type 0) (k l : K) (S T : List Message) → T ≡ S
    → ((J : List Message) → keeps k J → keeps l J) → ∥ keeps k S ∥₁ → ∥ keeps l T ∥₁
kept_still keeps k l S T stays more h = subst (λ (J : List Message). ∥ keeps l J ∥₁) (sym stays) (follows (more S) h)
