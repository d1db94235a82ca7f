-- Steps that are made one after another, until nothing is left to do.
use Rattle.std.specs.Prelude.{Bool, not, Result, Ok, Err}
use Rattle.peer_step.specs.declared.step.Step.{Step}
use Rattle.peer_step.specs.declared.step.Step.TheVariants.{Settle, ValidateNext}
use Rattle.peer_step.specs.declared.answer.Answer.{Answer}
use Rattle.peer_step.specs.Answers.{is_quiet}
use Rattle.session_core.specs.declared.backlog.Backlog.{Backlog}
use Rattle.session_core.specs.declared.backlog.Backlog.TheVariants.{Held, Unvalidated}
use Rattle.session_core.specs.declared.fault.SessionFault.{SessionFault}
use Rattle.session_core.specs.Events.{Phase, Settles, Validates, SessionState, in_phase, Mode, after_settle, after_validation, is_issued}
use Rattle.session_core.specs.Session.{Side, Talked, CutOff}

-- the step that takes the next of what is left
abbrev pub next_step : Backlog → Step
next_step Held = Settle
next_step Unvalidated = ValidateNext

-- the answer says that nothing was left
abbrev pub is_cleared_by : Backlog → Answer → Bool
is_cleared_by Held answer = is_quiet answer
is_cleared_by Unvalidated answer = not (is_issued answer)

-- the phase in which such steps are made
abbrev pub clearing : Backlog → Phase
clearing Held = Settles
clearing Unvalidated = Validates

-- after one of them: one more, unless nothing was left
abbrev pub after_clearing : Mode → Backlog → Bool → SessionState → SessionState
after_clearing mode Held cleared s = in_phase (after_settle cleared) s
after_clearing mode Unvalidated cleared s = after_validation mode (not cleared) (in_phase Validates s)

-- one of them was made, and says whether nothing was left
abbrev pub TakenOnce : Mode → Backlog → SessionState → Side → Side → Result Bool SessionFault → Type 0
TakenOnce mode backlog s a b (Ok cleared) = Talked mode (in_phase (clearing backlog) s) (after_clearing mode backlog cleared s) a b
TakenOnce mode backlog s a b (Err fault) = CutOff mode (in_phase (clearing backlog) s) a b fault
