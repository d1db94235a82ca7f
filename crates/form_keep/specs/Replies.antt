-- What is answered to steps, which of them change the peer, and whether a store had room for them.
use Rattle.std.specs.Prelude.{◌≡◌, ⊤, ℕ, ◌+◌, Bool, false, not, ◌&&◌, List, [], ◌∷◌, ◌++◌, None, nat_lt}
use Rattle.peer_disk.specs.Records.{gate_place}
use Rattle.peer_store.specs.Body.{body_of}
use Rattle.peer_step.specs.declared.step.Step.{Step}
use Rattle.peer_core.specs.Peer.{Peer, fresh_peer, front}
use Rattle.peer_core.specs.Answers.{answer_of}
use Rattle.peer_core.specs.After.{peer_after}
use Rattle.peer_store.specs.declared.limits.TheConstants.{MAX_GATE}
use Rattle.peer_store.specs.Steps.{if_changing, is_look}
use Rattle.line_spelling.specs.Answers.{answer_line}

-- the lines of the answers to steps from a peer on
abbrev pub replies_from : Peer → List Step → List ℕ
replies_from p [] = []
replies_from p (step ∷ steps) = answer_line None (answer_of p step) ++ replies_from (peer_after p step) steps

-- those of the steps that change the peer
abbrev pub changing_from : Peer → List Step → List Step
changing_from p [] = []
changing_from p (step ∷ steps) = if_changing p step ++ changing_from (peer_after p step) steps

-- the bodies of steps from a peer on
abbrev pub bodies_from : Peer → List Step → List (List ℕ)
bodies_from p [] = []
bodies_from p (step ∷ steps) = body_of (front p + 1) step ∷ bodies_from (peer_after p step) steps

-- the place of the last gate in a store that stands for these steps
abbrev pub last_gate : ℕ → List Step → ℕ
last_gate site kept = gate_place (bodies_from (fresh_peer site) kept)

-- a store that stands for these steps has no room for a step: it is no look, and the last gate stands too far behind
abbrev pub finds_full_store : ℕ → List Step → Step → Bool
finds_full_store site kept step = nat_lt MAX_GATE (last_gate site kept) && not (is_look step)

-- a store that stood for these steps had room for each step that the peer then made
abbrev pub HadRoom : ℕ → List Step → Peer → List Step → Type 0
HadRoom site kept p [] = ⊤
HadRoom site kept p (step ∷ steps) = (finds_full_store site kept step ≡ false) × HadRoom site (kept ++ if_changing p step) (peer_after p step) steps
