use Rattle.std.proofs.Common.{sym, ap, ◌∙◌}
use Rattle.std.specs.Prelude.{option_map}
use Rattle.edit_message.specs.declared.message.Message.TheVariants.{Coop}
use Rattle.peer_step.specs.Lent.{answer_told}
use Rattle.peer_core.specs.Peer.{Peer, missing}
use Rattle.peer_core.proofs.AnswerLemmas.Received.{not_found, may_take}
use Rattle.peer_core.proofs.peer.Peer.receive_request.Goals as goal

pub take_request-requires-clause-may : goal.take_request-requires-clause-may
take_request-requires-clause-may c =
    let p : Peer = c.args.self.now in
    may_take p (Coop c.args.request.now) c.of_request.ensures.message
    (not_found p (Coop c.args.request.now) c.of_request.result c.of_request.ensures.value c.in_default.ensures)
    (sym c.request_refusal.ensures ∙ ap (option_map answer_told) c.in_default-request_refusal.is)
    (sym (c.missing_request.ensures ∙ ap (λ (o : Peer). missing o (Coop c.args.request.now)) c.self.view_is) ∙ c.in-None.is)
