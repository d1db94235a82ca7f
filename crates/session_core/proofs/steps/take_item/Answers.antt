use Rattle.std.proofs.Common.{refl}
use Rattle.std.proofs.lemmas.Result.{err_from_is_err_and}
use Rattle.peer_step.specs.declared.step.Step.TheVariants.{Receive}
use Rattle.session_core.specs.Events.{ReceivesItem, Settles, Listens, in_phase}
use Rattle.session_core.specs.Session.{side}
use Rattle.session_core.proofs.Talks.{talked_made, cut_step, gets_then}
use Rattle.session_core.proofs.steps.take_item.Goals as goal

pub returns-in_err-answer-clause-talk : goal.returns-in_err-answer-clause-talk
returns-in_err-answer-clause-talk g c =
    let p = err_from_is_err_and c.from_residual.result c.from_residual.ensures.1 in
    rw (p.1, p.2) (λ mode s got sent.
    cut_step mode (in_phase (ReceivesItem c.args.message) s) c.args.pass.now c.make.new.pass got sent (Receive c.args.message) _ tt c.make.ensures.keeps.same c.in_err-answer.ensures.makes)

pub returns-clause-talk : goal.returns-clause-talk
returns-clause-talk g c = λ mode s got sent.
    let m = in_phase (ReceivesItem c.args.message) s in
    let t = in_phase Settles s in
    gets_then mode m t (in_phase Listens s) (side c.args.pass.now got sent) (side c.make.new.pass got sent) (side c.clear.new.pass got sent) c.clear.result
    (talked_made mode m t c.args.pass.now c.make.new.pass got sent (Receive c.args.message) _ c.make.ensures.keeps.same c.in_ok-answer.ensures.makes.steps_are c.in_ok-answer.ensures.makes.answers_are (refl, refl))
    (c.clear.ensures.talk mode s got sent)
