use Rattle.std.proofs.Common.{◌≤◌, ℕ, List, Option, length}
use Rattle.peer_lock.specs.Answers.{IsSame}
use Rattle.session_core.specs.Events.{SessionState, Mode, in_phase}
use Rattle.session_core.specs.Session.{side, Talked}
use Rattle.session_core.specs.Clearing.{clearing}
use Rattle.session_core.proofs.steps.clear.Given as goal

abbrev pub invariant-loop : goal.invariant-loop
invariant-loop g l = record {
  same : IsSame l.fn.pass l.pass;
  grown : length l.fn.pass.view.seen ≤ length l.pass.view.seen;
  talk : (mode : Mode) (s : SessionState) (got sent : Option (List (List ℕ)))
      → Talked mode (in_phase (clearing l.backlog) s) (in_phase (clearing l.backlog) s) (side l.fn.pass got sent) (side l.pass got sent);
}
