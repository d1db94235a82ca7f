use Rattle.form_watch.proofs.Full.{stopped_after}
use Rattle.form_watch.proofs.Published.{step_published}
use Rattle.form_watch.proofs.writing.publish_step.Goals as goal

pub returns-in-Ok-clause-published : goal.returns-in-Ok-clause-published
returns-in-Ok-clause-published g c =
    step_published c.args.screen.now c.publish.new.self c.args.pass.now c.make.new.pass c.publish.new.pass c.args.step.now _ c.in_ok-make.ensures.same c.in_ok-make.ensures.made
    c.in-Ok.ensures.same c.in-Ok.ensures.step c.in-Ok.ensures.publishes c.in-Ok.ensures.published

pub returns-in-Err-clause-stopped : goal.returns-in-Err-clause-stopped
returns-in-Err-clause-stopped g c =
    stopped_after c.args.pass.now c.make.new.pass c.publish.new.pass c.args.step.now c.in-Err.fail c.in_ok-make.ensures.same c.in_ok-make.ensures.made c.in-Err.ensures.same c.in-Err.ensures.step
