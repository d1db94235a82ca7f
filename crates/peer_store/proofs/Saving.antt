-- What a disk keeps of steps, by what it keeps of their bodies.
use Rattle.std.proofs.Common.{◌≡◌, ℕ, true, false, List, [], ◌∷◌, ◌++◌, refl, sym, ap, subst, Option}
use Rattle.std.specs.Prelude.{fold, if◌then◌else◌}
use Rattle.peer_disk.specs.Records.{HasBodies, HasNoneIfAny}
use Rattle.peer_step.specs.declared.step.Step.{Step}
use Rattle.peer_core.specs.Peer.{Peer, fresh_peer}
use Rattle.peer_core.specs.After.{peer_after}
use Rattle.peer_store.specs.Steps.{changes, if_changing}
use Rattle.peer_store.specs.Store.{IsBodyFor, KeptAs, StandsFor, StandsForNoneIfAny, Saved, IsSaved}

-- steps and their bodies, and then more
pub kept_append : (p : Peer) (steps more : List Step) (bodies others : List (List ℕ)) → KeptAs p steps bodies → KeptAs (fold peer_after p steps) more others → KeptAs p (steps ++ more) (bodies ++ others)
kept_append p [] more [] others kept next = next
kept_append p [] more (b ∷ bodies) others kept next = absurd kept
kept_append p (s ∷ steps) more [] others kept next = absurd kept
kept_append p (s ∷ steps) more (b ∷ bodies) others kept next = (kept.0, kept.1, kept_append (peer_after p s) steps more bodies others kept.2 next)

-- one step more, and its body
pub kept_push : (p : Peer) (steps : List Step) (bodies : List (List ℕ)) (step : Step) (body : List ℕ) → KeptAs p steps bodies → IsBodyFor (fold peer_after p steps) step body
    → changes (fold peer_after p steps) step ≡ true → KeptAs p (steps ++ step ∷ []) (bodies ++ body ∷ [])
kept_push p steps bodies step body kept spells turns = kept_append p steps (step ∷ []) bodies (body ∷ []) kept (spells, turns, tt)

-- no bodies are those of no steps
none_of_none : (p : Peer) (steps : List Step) → KeptAs p steps [] → steps ≡ []
none_of_none p [] kept = refl
none_of_none p (step ∷ steps) kept = absurd kept

-- a file that has no bodies, if it has any, stands for no steps
pub none_if_any : (site : ℕ) (file : List ℕ) → HasNoneIfAny site file → StandsForNoneIfAny site file
none_if_any site file none steps stands = none_of_none (fresh_peer site) steps (subst (KeptAs (fresh_peer site) steps) (none stands.bodies stands.has) stands.spelled)

pub if_it_changes : (p : Peer) (step : Step) → changes p step ≡ true → if_changing p step ≡ step ∷ []
if_it_changes p step turns = ap (λ b. if b then step ∷ [] else []) turns

pub if_it_stays : (p : Peer) (step : Step) → changes p step ≡ false → if_changing p step ≡ []
if_it_stays p step quiet = ap (λ b. if b then step ∷ [] else []) quiet

module _ (site : ℕ) (steps : List Step) (saved : Saved) (seen : Option (List ℕ)) (may_leave : List ℕ → Type 0) (kept : IsSaved site steps saved seen may_leave) where
  -- what a crash may leave stands for the steps
  pub leaves_steps : (left : List ℕ) → may_leave left → StandsFor site steps left
  leaves_steps left may = record {
    bodies = kept.bodies;
    spelled = kept.spelled;
    has = subst (HasBodies site kept.bodies) (sym (kept.keeps.durable left may)) kept.keeps.has;
  }
