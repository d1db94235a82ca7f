use Rattle.std.proofs.Common.{◌≡◌, ◌++◌, length, refl, sym, ap, ◌∙◌, subst, arith}
use Rattle.std.specs.Prelude.{sum_by}
use Rattle.link_run.specs.Jobs.{outcomes_of}
use Rattle.link_run.proofs.Gathering.{length-outcomes}
use Rattle.link_run.specs.Standing.{LinksUntouched}
use Rattle.link_run.specs.Counts.{failures_in}
use Rattle.link_run.proofs.Standings.{links_untouched, hurt_untouched, no_failures}
use Rattle.link_run.proofs.serving.give_back.Goals as goal

pub returns-clause-ends : goal.returns-clause-ends
returns-clause-ends g c =
    let js = c.args.jobs.items in
    let outcomes : c.finish_jobs.new.outcomes.items ≡ outcomes_of js = c.finish_jobs.ensures.outcomes ∙ ap (λ l. l ++ outcomes_of js) c.requires.room.0 in record {
      taken = omega (arith, ap (λ l. length l) outcomes, length-outcomes js, c.args.jobs.ok.0);
      no_own = refl;
      no_step = c.requires.idle;
      untouched = subst (λ os. LinksUntouched g.D.Line.Link.got g.D.Line.Link.sent g.D.Line.Link.faults g.D.Line.Link.closes (g.D.Door.used c.args.door.now) (g.D.Door.used c.finish_jobs.new.door) os) (sym outcomes)
          (links_untouched g.D.Line.Link.got g.D.Line.Link.sent g.D.Line.Link.faults g.D.Line.Link.closes js (g.D.Door.used c.args.door.now) (g.D.Door.used c.finish_jobs.new.door) c.requires.ready c.finish_jobs.ensures.used);
    }

pub returns-clause-many : goal.returns-clause-many
returns-clause-many g c =
    let js = c.args.jobs.items in
    let outcomes : c.finish_jobs.new.outcomes.items ≡ outcomes_of js = c.finish_jobs.ensures.outcomes ∙ ap (λ l. l ++ outcomes_of js) c.requires.room.0 in
    omega (arith, ap (λ l. length l) outcomes, length-outcomes js, c.args.jobs.ok.0)

pub returns-clause-back : goal.returns-clause-back
returns-clause-back g c =
    let js = c.args.jobs.items in
    let outcomes : c.finish_jobs.new.outcomes.items ≡ outcomes_of js = c.finish_jobs.ensures.outcomes ∙ ap (λ l. l ++ outcomes_of js) c.requires.room.0 in record {
      faults_are = c.finish_jobs.ensures.back.faults_are;
      given_are = c.finish_jobs.ensures.back.given_are;
      returned_are = c.finish_jobs.ensures.back.returned_are;
      hurt_are = omega (
        arith,
        c.finish_jobs.ensures.back.hurt_are,
        hurt_untouched g.D.Line.Link.got g.D.Line.Link.sent g.D.Line.Link.faults g.D.Line.Link.closes js c.requires.ready,
        no_failures g.D.Line.Link.got g.D.Line.Link.sent g.D.Line.Link.faults g.D.Line.Link.closes js c.requires.ready,
        ap (λ l. sum_by failures_in l) outcomes,
      );
    }

pub finish_jobs-requires-clause-room : goal.finish_jobs-requires-clause-room
finish_jobs-requires-clause-room g c = omega (arith, ap (λ l. length l) c.requires.room.0, c.requires.room.1, c.args.outcomes.ok.0)
