use Rattle.std.proofs.Common.{◌≡◌, [], ◌∷◌, ◌++◌, ap, sym, subst, ◌∙◌}
use Rattle.auth_match.specs.declared.verdict.Verdict.TheVariants.{Granted}
use Rattle.peer_tables.specs.Derived.{state_in}
use Rattle.peer_core.specs.Peer.{Peer, history, log, front}
use Rattle.peer_core.specs.Answers.{own_verdict}
use Rattle.peer_core.proofs.peer.Peer.make.Goals as goal

pub granted_state-state-requires-clause-here : goal.granted_state-state-requires-clause-here
granted_state-state-requires-clause-here c = c.requires.here ∙ ap (λ (p : Peer). front p) (sym c.self.view_is)

pub granted_state-state-requires-clause-granted : goal.granted_state-state-requires-clause-granted
granted_state-state-requires-clause-granted c = subst (λ (p : Peer). own_verdict p c.args.request.now ≡ Granted) (sym c.self.view_is) c.requires.granted

pub take_request-requires-clause-given : goal.take_request-requires-clause-given
take_request-requires-clause-given c =
    c.granted_state-state.ensures ∙ ap (λ (p : Peer). state_in (history p ++ c.args.request.now ∷ []) (log p) c.args.request.now) c.self.view_is
