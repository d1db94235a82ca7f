use Rattle.std.proofs.Common.{sym, subst}
use Rattle.peer_step.specs.declared.step.Step.{Step}
use Rattle.peer_store.specs.Body.{IsBody}
use Rattle.peer_store.proofs.body.writing.body_of.Goals as goal

pub returns-in_ok-edit_body-in-Edit-clause-some : goal.returns-in_ok-edit_body-in-Edit-clause-some
returns-in_ok-edit_body-in-Edit-clause-some c =
    let body = c.in_ok-edit_body-in-Edit in
    subst (λ (s : Step). IsBody c.args.version s body.field-0.items) (sym c.in-Edit.is) (body.ensures c.args.version)

pub returns-in_ok-message_body-in-Receive-clause-some : goal.returns-in_ok-message_body-in-Receive-clause-some
returns-in_ok-message_body-in-Receive-clause-some c =
    let body = c.in_ok-message_body-in-Receive in
    subst (λ (s : Step). IsBody c.args.version s body.field-0.items) (sym c.in-Receive.is) (body.ensures c.args.version)
