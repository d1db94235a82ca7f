-- That the step of a body is made, or that no step which changes the peer has it.
use Rattle.std.proofs.Common.{◌≡◌, ℕ, ◌+◌, Bool, true, false, List, Option, Some, None, refl, sym, ap, ◌∙◌, subst}
use Rattle.std.specs.Prelude.{IsTrue, IfSome, unwrap_or, is_none}
use Rattle.std.proofs.lemmas.Bool.{both_ways, true≢false}
use Rattle.edit_frame.specs.Spells.{IsBytes}
use Rattle.peer_step.specs.declared.step.Step.{Step}
use Rattle.peer_core.specs.Peer.{Peer, front}
use Rattle.peer_store.specs.Body.{IsBody}
use Rattle.peer_store.specs.Reading.{step_in_body}
use Rattle.peer_store.specs.Replay.{MakesBody, IsMade}
use Rattle.peer_store.specs.Steps.{changes}
use Rattle.peer_store.specs.Store.{IsNoStep}
use Rattle.peer_store.proofs.Again.{read_again}
use Rattle.peer_store.proofs.Taken.{read_found}

makes_found : (p r : Peer) (body : List ℕ) (found : Option Step) (told : Bool) → IfSome found (λ step. IsBody (front p + 1) step body) → IsMade p found told r
    → IsTrue told → MakesBody p body r
makes_found p r body (Some step) told has made true_told = record { step = step; spells = has; turns = sym made.0 ∙ true_told; after = made.1 }
makes_found p r body None told has made true_told = absurd (both_ways told made true_told)

none_found : (p r : Peer) (body : List ℕ) (found : Option Step) (told : Bool) → ((step : Step) → IsBody (front p + 1) step body → found ≡ Some step) → IsMade p found told r
    → told ≡ false → IsNoStep p body
none_found p r body (Some own) told only made false_told step has = subst (λ (s : Step). changes p s ≡ false) (ap (λ (o : Option Step). unwrap_or o own) (only step has)) (sym made.0 ∙ false_told)
none_found p r body None told only made false_told step has = absurd (true≢false (ap is_none (only step has)))

pub makes_body : (p r : Peer) (body : List ℕ) (told : Bool) → IsBytes body → IsMade p (step_in_body (front p + 1) body) told r → IsTrue told → MakesBody p body r
makes_body p r body told fits = makes_found p r body (step_in_body (front p + 1) body) told (read_found (front p + 1) body _ fits refl)

pub is_no_step : (p r : Peer) (body : List ℕ) (told : Bool) → IsMade p (step_in_body (front p + 1) body) told r → told ≡ false → IsNoStep p body
is_no_step p r body told = none_found p r body (step_in_body (front p + 1) body) told (λ step has. read_again (front p + 1) step body has)
