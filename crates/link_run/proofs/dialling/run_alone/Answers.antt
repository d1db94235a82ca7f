use Rattle.std.proofs.Common.{Option, sym, ◌∙◌, subst}
use Rattle.link_run.specs.declared.own.OwnEnd.{OwnEnd}
use Rattle.link_run.specs.Ends.{OwnEnds}
use Rattle.link_run.proofs.Wholly.{run_of_all}
use Rattle.link_run.proofs.Endings.{fresh_sole, sole_same, stands_for_all, led_from, own_in_run}
use Rattle.link_run.proofs.dialling.run_alone.Goals as goal

pub close_alone-requires-clause-whole : goal.close_alone-requires-clause-whole
close_alone-requires-clause-whole g c =
    let k = c.in_ok-shared.pass in
    stands_for_all c.in_ok-shared.shared c.args.site c.make_own-pass.result.0
    (sole_same c.in_ok-shared.shared c.args.site k c.make_own-pass.result.0 (fresh_sole k c.in_ok-shared.shared c.args.site c.in_ok-shared.ensures.0 c.in_ok-shared.ensures.1) c.make_own-pass.ensures.same)

pub returns-clause-led : goal.returns-clause-led
returns-clause-led g c =
    let k = c.in_ok-shared.pass in
    let sole = sole_same c.in_ok-shared.shared c.args.site k c.make_own-pass.result.0 (fresh_sole k c.in_ok-shared.shared c.args.site c.in_ok-shared.ensures.0 c.in_ok-shared.ensures.1) c.make_own-pass.ensures.same in
    led_from c.args.site c.make_own-pass.result.0.view c.close_alone.result sole.origin_is c.close_alone.ensures.closes c.close_alone.ensures.site

pub returns-clause-ends : goal.returns-clause-ends
returns-clause-ends g c =
    let k = c.in_ok-shared.pass in
    let run = c.close_alone.result.history.run in
    let sole = sole_same c.in_ok-shared.shared c.args.site k c.make_own-pass.result.0 (fresh_sole k c.in_ok-shared.shared c.args.site c.in_ok-shared.ensures.0 c.in_ok-shared.ensures.1) c.make_own-pass.ensures.same in record {
      own_steps = subst (λ (o : Option OwnEnd). OwnEnds c.args.steps.now o run) (sym c.close_alone.ensures.ends.0)
          (own_in_run k c.make_own-pass.result.0 c.in_ok-shared.shared c.args.site c.args.steps.now c.make_own-pass.result.1 c.close_alone.result.peer run c.in_ok-shared.ensures.1 sole c.make_own-pass.ensures.mine c.close_alone.ensures.closes);
      callers = run_of_all c.make_own-pass.result.0.view c.close_alone.result.peer run 1 sole.made_is c.close_alone.ensures.closes;
      no_fault = c.close_alone.ensures.ends.1;
      no_link = c.close_alone.ensures.ends.2 ∙ c.new.ensures.items;
    }
