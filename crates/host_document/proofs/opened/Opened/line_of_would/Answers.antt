use Rattle.std.proofs.Common.{◌≡◌, ◌++◌, List, None, subst}
use Rattle.peer_step.specs.declared.step.Step.TheVariants.{Administer}
use Rattle.peer_core.specs.Answers.{answer_of}
use Rattle.line_spelling.specs.Answers.{answer_line}
use Rattle.host_core.specs.declared.event.HostEvent.{HostEvent}
use Rattle.host_core.specs.Past.{host_peer}
use Rattle.peer_outlook.specs.Outlook.{names_undone}
use Rattle.host_interface.specs.Foreseen.{IsOutlook}
use Rattle.host_document.proofs.Users.{outlook_said}
use Rattle.host_document.proofs.opened.Opened.line_of_would.Goals as goal

pub returns : goal.returns
returns c =
    let p = host_peer c.self.inside.host.register in
    let answered : c.in_ok-answer.answer ≡ answer_of p (Administer c.args.op.now) = cc (c.in_ok-answer.answer-is, c.in_ok-answer.ensures.answer) in
    let undone : c.deref.result.now ≡ names_undone p c.args.op.now = cc (c.deref.ensures.value, c.in_ok-answer.ensures.undone) in
    let written : c.in_ok-lines.lines.items ≡ answer_line None c.in_ok-answer.answer = cc (c.in_ok-lines.ensures) in
    let said : c.put.new.line.items ≡ c.in_ok-lines.lines.items ++ c.in_ok-whose.whose.items = cc (c.in_ok-put.ensures, c.deref-2.ensures.value) in
    subst (λ (past : List HostEvent). IsOutlook (host_peer past) c.args.op.now c.put.new.line.items) c.self.view_is
    (outlook_said p c.args.op.now c.in_ok-answer.answer c.deref.result.now c.in_ok-lines.lines.items c.in_ok-whose.whose.items c.put.new.line.items answered undone written c.in_ok-whose.ensures said)
