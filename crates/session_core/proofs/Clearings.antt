-- Steps that are made until nothing is left to do.
use Rattle.std.proofs.Common.{◌≡◌, Bool, true, false, refl, ap}
use Rattle.std.specs.Prelude.{not}
use Rattle.peer_step.specs.declared.answer.Answer.{Answer}
use Rattle.session_core.specs.declared.backlog.Backlog.{Backlog}
use Rattle.session_core.specs.declared.backlog.Backlog.TheVariants.{Held, Unvalidated}
use Rattle.session_core.specs.Events.{SessionState, Validates, in_phase, Mode, MayStep, after_validation, is_issued}
use Rattle.session_core.specs.Session.{IsStepPhase}
use Rattle.session_core.specs.Clearing.{next_step, is_cleared_by, clearing, after_clearing}

twice_not : (b : Bool) → not (not b) ≡ b
twice_not true = refl
twice_not false = refl

-- a step that takes the next may be made, and this follows
pub may_take : (mode : Mode) (backlog : Backlog) (s : SessionState) (answer : Answer)
    → MayStep mode (clearing backlog) (in_phase (clearing backlog) s) (next_step backlog) answer (after_clearing mode backlog (is_cleared_by backlog answer) s)
may_take mode Held s answer = (refl, refl)
may_take mode Unvalidated s answer = (refl, ap (λ b. after_validation mode b (in_phase Validates s)) (twice_not (is_issued answer)))

pub step_comes : (backlog : Backlog) → IsStepPhase (clearing backlog)
step_comes Held = tt
step_comes Unvalidated = tt

-- while something is left, one more is made
pub not_cleared : (mode : Mode) (backlog : Backlog) (s : SessionState) → after_clearing mode backlog false s ≡ in_phase (clearing backlog) s
not_cleared mode Held s = refl
not_cleared mode Unvalidated s = refl
