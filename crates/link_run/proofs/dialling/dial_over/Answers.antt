use Rattle.std.proofs.Common.{◌==◌, ◌++◌, ◌∷◌, [], Some, length, ap, ◌∙◌, arith}
use Rattle.std.specs.Prelude.{sum_by}
use Rattle.std.proofs.lemmas.List.Sums.{sum_by-cons}
use Rattle.session_core.specs.Events.{dialling}
use Rattle.link_run.specs.Passes.{IsSolePass}
use Rattle.link_run.specs.Counts.{failures_in}
use Rattle.link_run.proofs.Standings.{hurt_once}
use Rattle.link_run.proofs.Wholly.{run_of_all}
use Rattle.link_run.proofs.Endings.{sole_same, stands_for_all, led_from, dialled_in_run, dial_ends_at}
use Rattle.link_run.proofs.dialling.dial_over.Goals as goal

pub close_alone-requires-clause-whole : goal.close_alone-requires-clause-whole
close_alone-requires-clause-whole g c =
    stands_for_all c.args.shared c.args.site c.dial_link-ended.new.pass (sole_same c.args.shared c.args.site c.args.pass c.dial_link-ended.new.pass c.requires.own c.dial_link-ended.ensures.left.same)

pub returns-clause-led : goal.returns-clause-led
returns-clause-led g c =
    led_from c.args.site c.dial_link-ended.new.pass.view _ (sole_same c.args.shared c.args.site c.args.pass c.dial_link-ended.new.pass c.requires.own c.dial_link-ended.ensures.left.same).origin_is
    c.close_alone.ensures.closes c.close_alone.ensures.site

pub returns-clause-ends : goal.returns-clause-ends
returns-clause-ends g c =
    let ended = c.dial_link-ended.result in
    let last = c.dial_link-ended.new.pass in
    let link = c.dial_link-ended.new.link in
    let sole : IsSolePass c.args.shared c.args.site last = sole_same c.args.shared c.args.site c.args.pass last c.requires.own c.dial_link-ended.ensures.left.same in
    let one = c.close_alone.ensures.ends.2 ∙ c.push_reserved.ensures.items ∙ ap (λ l. l ++ Some ended ∷ []) c.requires.room.0 in
    dial_ends_at g.D.Line.Link.got g.D.Line.Link.sent g.D.Line.Link.faults g.D.Line.Link.closes c.args.site c.args.rounds _ _ _ _ _ _ _ _ _ _ c.close_alone.ensures.ends.0 c.close_alone.ensures.ends.1 one (
      link,
      c.back.ensures.used,
      run_of_all last.view c.close_alone.result.peer c.close_alone.result.history.run 1 sole.made_is c.close_alone.ensures.closes,
      dialled_in_run g.D.Line.Link.got g.D.Line.Link.sent g.D.Line.Link.faults g.D.Line.Link.closes (dialling (c.args.site == 0) c.args.rounds) c.args.shared c.args.site c.args.pass last c.args.link link ended _ _
          c.dial_link-ended.ensures.session c.dial_link-ended.ensures.left c.requires.unused sole c.close_alone.ensures.closes,
    )

pub returns-clause-whole : goal.returns-clause-whole
returns-clause-whole g c =
    let ended = c.dial_link-ended.result in
    let one = c.close_alone.ensures.ends.2 ∙ c.push_reserved.ensures.items ∙ ap (λ l. l ++ Some ended ∷ []) c.requires.room.0 in
    (c.close_alone.ensures.ends.1, ap (λ l. length l) one)

pub returns-clause-back : goal.returns-clause-back
returns-clause-back g c =
    let ended = c.dial_link-ended.result in
    let one = c.close_alone.ensures.ends.2 ∙ c.push_reserved.ensures.items ∙ ap (λ l. l ++ Some ended ∷ []) c.requires.room.0 in record {
      faults_are = c.back.ensures.faults;
      given_are = c.back.ensures.given;
      returned_are = c.back.ensures.returned;
      hurt_are = omega (
        arith,
        c.back.ensures.hurt,
        hurt_once (g.D.Line.Link.faults c.args.link) (g.D.Line.Link.faults c.dial_link-ended.new.link) ended c.requires.unused.no_fault c.dial_link-ended.ensures.left.faults_are,
        ap (λ l. sum_by failures_in l) one,
        sum_by-cons failures_in (Some ended) [],
      );
    }
