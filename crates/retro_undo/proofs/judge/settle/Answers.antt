use Rattle.std.proofs.Common.{sym, ap, ◌∙◌}
use Rattle.auth_match.specs.declared.verdict.Verdict.{Verdict}
use Rattle.request_state.specs.declared.state.State.TheVariants.{Tentative}
use Rattle.request_state.specs.Table.{with_state}
use Rattle.retro_undo.specs.Undo.{state_after_verdict}
use Rattle.retro_undo.proofs.Undoing.{tentative_again}
use Rattle.retro_undo.proofs.judge.settle.Goals as goal

pub returns-in-Granted-clause-states : goal.returns-in-Granted-clause-states
returns-in-Granted-clause-states c =
    sym (tentative_again c.args.states.now c.args.id c.requires.order c.requires.tentative)
    ∙ sym (ap (λ (w : Verdict). with_state c.args.states.now c.args.id (state_after_verdict Tentative c.args.version w)) c.in-Granted.is)
