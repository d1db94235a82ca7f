-- Which steps change a peer, and what they lead to.
use Rattle.std.specs.Prelude.{ℕ, Bool, true, false, not, ◌==◌, ◌||◌, List, [], ◌∷◌, length, fold, if◌then◌else◌}
use Rattle.peer_step.specs.declared.step.Step.{Step}
use Rattle.peer_step.specs.declared.step.Step.TheVariants.{Look, Show}
use Rattle.peer_core.specs.Peer.{Peer, fresh_peer}
use Rattle.peer_core.specs.After.{peer_after}

-- the peer of a site after these steps
abbrev pub replay_of : ℕ → List Step → Peer
replay_of site steps = fold peer_after (fresh_peer site) steps

-- two peers have, or hold, different numbers of messages
abbrev pub differs_in_counts : Peer → Peer → Bool
differs_in_counts p r = not (length r.journal == length p.journal) || not (length r.held == length p.held)

-- a step changes a peer: it then has, or holds, another number of messages
abbrev pub changes : Peer → Step → Bool
changes p step = differs_in_counts p (peer_after p step)

-- the step, if it changes the peer
abbrev pub if_changing : Peer → Step → List Step
if_changing p step = if changes p step then step ∷ [] else []

-- a look at the journal or at the text
abbrev pub is_look : Step → Bool
is_look (Look from) = true
is_look Show = true
is_look step = false
