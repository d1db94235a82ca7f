use Rattle.std.proofs.Common.{◌≡◌, IfOk, subst}
use Rattle.peer_step.specs.declared.step.Step.TheVariants.{Administer}
use Rattle.peer_core.specs.Peer.{Peer}
use Rattle.peer_core.specs.Answers.{answer_of}
use Rattle.peer_outlook.specs.Outlook.{names_undone}
use Rattle.host_core.proofs.host.Host.outlook.Goals as goal

pub returns-clause-answer : goal.returns-clause-answer
returns-clause-answer g c = subst (λ (p : Peer). IfOk c.foresee.result (λ o. o.answer ≡ answer_of p (Administer c.args.op.now))) c.peer.ensures.peer c.foresee.ensures.answer

pub returns-clause-undone : goal.returns-clause-undone
returns-clause-undone g c =
    subst (λ (p : Peer). IfOk c.foresee.result (λ o. o.undone.items ≡ names_undone p c.args.op.now)) c.peer.ensures.peer c.foresee.ensures.undone
