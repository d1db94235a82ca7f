-- Runs: the steps that a shared peer has made, each with the number of the pass that made it.
use Rattle.std.specs.Prelude.{◌≡◌, ℕ, ◌==◌, List, [], ◌∷◌, ◌++◌, Option, Some, slice_get, option_map, cond}
use Rattle.peer_step.specs.declared.step.Step.{Step}
use Rattle.peer_core.specs.Peer.{Peer}
use Rattle.peer_core.specs.After.{peer_after}
use Rattle.peer_lock.specs.declared.call.Call.{Call}

abbrev pub call : ℕ → Step → Call
call caller step = record { caller = caller; step = step }

-- the peer after a run
abbrev pub peer_after_run : Peer → List Call → Peer
peer_after_run p [] = p
peer_after_run p (e ∷ es) = peer_after_run (peer_after p e.step) es

-- the steps of one caller, in their order
abbrev pub steps_by : ℕ → List Call → List Step
steps_by n [] = []
steps_by n (e ∷ es) = cond (e.caller == n) (e.step ∷ steps_by n es) (steps_by n es)

-- the run begins with what was seen
abbrev pub StartsWith : List Call → List Call → Type 0
StartsWith run seen = (more : List Call) × (run ≡ seen ++ more)

-- the caller of a step of the run
abbrev pub caller_at : List Call → ℕ → Option ℕ
caller_at run i = option_map (λ (e : Call). e.caller) (slice_get run i)

-- the run has this step at this place
abbrev pub StepAt : List Call → ℕ → Step → Type 0
StepAt run i s = (e : Call) × (slice_get run i ≡ Some e) × (e.step ≡ s)

-- what the slot has, as the rule sees it: the site of a peer, and the run that led to the peer
pub record Recorded : Type 0 where
  pub site : ℕ
  pub run : List Call

abbrev pub recorded : ℕ → List Call → Recorded
recorded site run = record { site = site; run = run }
