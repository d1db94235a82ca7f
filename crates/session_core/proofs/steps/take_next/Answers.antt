use Rattle.std.proofs.Common.{sym, subst, Bool}
use Rattle.std.proofs.lemmas.Result.{err_from_is_err_and}
use Rattle.session_core.specs.Events.{in_phase, MayStep}
use Rattle.session_core.specs.Clearing.{next_step, clearing, after_clearing}
use Rattle.session_core.proofs.Talks.{talked_made, cut_step}
use Rattle.session_core.proofs.Clearings.{may_take, step_comes}
use Rattle.session_core.proofs.steps.take_next.Goals as goal

pub returns-clause-talk : goal.returns-clause-talk
returns-clause-talk g c = λ mode s got sent.
    let before = in_phase (clearing c.args.backlog) s in
    talked_made mode before _ c.args.pass.now c.make.new.pass got sent c.step.result c.in_ok-answer.answer c.make.ensures.keeps.same c.in_ok-answer.ensures.makes.steps_are c.in_ok-answer.ensures.makes.answers_are
    (rw c.step.ensures (subst (λ (q : Bool). MayStep mode (clearing c.args.backlog) before (next_step c.args.backlog) c.in_ok-answer.answer (after_clearing mode c.args.backlog q s))
    (sym c.is_cleared_by-cleared.ensures) (may_take mode c.args.backlog s c.in_ok-answer.answer)))

pub returns-in_err-answer-clause-talk : goal.returns-in_err-answer-clause-talk
returns-in_err-answer-clause-talk g c =
    let p = err_from_is_err_and c.from_residual.result c.from_residual.ensures.1 in
    rw (p.1, p.2) (λ mode s got sent.
    cut_step mode (in_phase (clearing c.args.backlog) s) c.args.pass.now c.make.new.pass got sent c.step.result _ (step_comes c.args.backlog) c.make.ensures.keeps.same c.in_err-answer.ensures.makes)
