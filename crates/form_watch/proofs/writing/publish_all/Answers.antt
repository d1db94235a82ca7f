use Rattle.std.proofs.Common.{refl, arith, ◌∙◌}
use Rattle.form_watch.proofs.Full.{stopped_at}
use Rattle.form_watch.proofs.Published.{none_published, one_published}
use Rattle.form_watch.proofs.writing.publish_all.Goals as goal

pub loop-step-init : goal.loop-step-init
loop-step-init g c = record { published = none_published c.args.screen c.args.pass c.requires.current; counted = refl }

pub loop-step-preserved : goal.loop-step-preserved
loop-step-preserved g c = record {
  published = one_published c.args.screen c.loop-step.screen c.publish_step.new.screen c.args.pass c.loop-step.pass c.publish_step.new.pass c.args.steps.now c.loop-step.step-index c.step-item.result
      c.loop-step-test.true c.step-item.is c.loop-step.invariant.published c.in-Ok.ensures.published;
  counted = omega (arith, c.loop-step.invariant.counted);
}

pub publish_step-requires-clause-own : goal.publish_step-requires-clause-own
publish_step-requires-clause-own g c κs within = c.loop-step.invariant.published.same.table ∙ c.requires.own

pub returns-in-Err-clause-stopped : goal.returns-in-Err-clause-stopped
returns-in-Err-clause-stopped g c =
    stopped_at c.args.screen c.loop-step.screen c.args.pass c.loop-step.pass c.publish_step.new.pass c.args.steps.now c.loop-step.step-index c.step-item.result c.in-Err.fail c.loop-step-test.true
    c.step-item.is c.loop-step.invariant.published c.in-Err.ensures.stopped
