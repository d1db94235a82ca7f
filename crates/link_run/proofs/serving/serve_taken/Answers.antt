use Rattle.std.proofs.Common.{◌≡◌, ℕ, ◌+◌, ◌<◌, ◌++◌, List, length, vec_len, ap, ◌∙◌, arith}
use Rattle.peer_lock.specs.KnownPass.{KnownPass}
use Rattle.peer_lock.specs.Rule.{HasNumber}
use Rattle.peer_lock.specs.declared.view.View.{View}
use Rattle.link_run.specs.Jobs.{outcomes_of}
use Rattle.link_run.proofs.Wholly.{each_pass, all_numbers-ones, has_one, own_steps_in_run, run_of_all}
use Rattle.link_run.proofs.WorkedLinks.{LinksIn, links_in}
use Rattle.link_run.proofs.Endings.{led_from, links_stand, links_counted, links_failed}
use Rattle.link_run.proofs.serving.serve_taken.Goals as goal
use Rattle.link_run.proofs.serving.serve_taken.Given.{Over}
use Rattle.link_run.proofs.serving.serve_taken.Goals.{After-close-peer}

pub finish_jobs-requires-clause-theirs : goal.finish_jobs-requires-clause-theirs
finish_jobs-requires-clause-theirs g c = λ κs lives.
    each_pass (λ (k : KnownPass). k.table ≡ c.args.shared) c.run_workers-pass.result.1.items
    (λ i d h. let less : i < length c.args.jobs.items = omega (arith, c.run_workers-pass.ensures.many, c.run_workers-pass.result.1.ok.0, c.args.jobs.ok.0) in
    let fewer : i < vec_len c.args.jobs = omega (arith, c.args.jobs.ok.0) in
    (c.run_workers-pass.ensures.each i d fewer).same.table ∙ (c.requires.theirs i d less).0)

pub finish_jobs-requires-clause-newcomers : goal.finish_jobs-requires-clause-newcomers
finish_jobs-requires-clause-newcomers g c = λ κs lives.
    each_pass (λ (k : KnownPass). k.view.made ≡ 0) c.run_workers-pass.result.1.items
    (λ i d h. let less : i < length c.args.jobs.items = omega (arith, c.run_workers-pass.ensures.many, c.run_workers-pass.result.1.ok.0, c.args.jobs.ok.0) in
    let fewer : i < vec_len c.args.jobs = omega (arith, c.args.jobs.ok.0) in
    (c.run_workers-pass.ensures.each i d fewer).same.made ∙ ap (λ (v : View). v.made) (c.requires.theirs i d less).1)

pub close-peer-requires-clause-whole : goal.close-peer-requires-clause-whole
close-peer-requires-clause-whole g c =
    let after = c.run_workers-pass.result.1.items in
    let ones = all_numbers-ones after
    (λ i d h. let less : i < length c.args.jobs.items = omega (arith, c.run_workers-pass.ensures.many, c.run_workers-pass.result.1.ok.0, c.args.jobs.ok.0) in
    let fewer : i < vec_len c.args.jobs = omega (arith, c.args.jobs.ok.0) in
    ap (λ (l : List ℕ). length l) ((c.run_workers-pass.ensures.each i d fewer).same.numbers ∙ ap (λ (v : View). v.numbers) (c.requires.theirs i d less).1)) in
    omega (
      arith,
      c.finish_jobs.ensures.joined.numbers,
      ones,
      ap (λ (l : List ℕ). length l) (c.run_workers-pass.ensures.own.0.numbers ∙ ap (λ (v : View). v.numbers) c.requires.own.1),
      c.finish_jobs.ensures.joined.made,
      c.run_workers-pass.ensures.own.0.made,
      ap (λ (v : View). v.made) c.requires.own.1,
      c.run_workers-pass.ensures.many,
      c.run_workers-pass.result.1.ok.0,
    )

pub returns-clause-led : goal.returns-clause-led
returns-clause-led g c =
    led_from c.args.site c.finish_jobs.new.pass.view _ (c.finish_jobs.ensures.joined.origin ∙ c.run_workers-pass.ensures.own.0.origin ∙ ap (λ (v : View). v.origin) c.requires.own.1)
    c.close-peer.ensures.closes c.close-peer.ensures.site

-- each link was worked, and came back
links : (g : Over) (c : After-close-peer g)
    → LinksIn g.D.Line.Link.got g.D.Line.Link.sent g.D.Line.Link.faults g.D.Line.Link.closes c.args.site c.args.jobs.items (g.D.Door.used c.args.door.now) (g.D.Door.used c.finish_jobs.new.door)
    (g.D.Door.hurt c.args.door.now) (g.D.Door.hurt c.finish_jobs.new.door) c.finish_jobs.new.outcomes.items c.close-peer.result.1.run
links g c =
    let after = c.run_workers-pass.result.1.items in
    let many : length after ≡ length c.args.jobs.items = omega (arith, c.run_workers-pass.ensures.many, c.run_workers-pass.result.1.ok.0, c.args.jobs.ok.0) in
    links_in g.D.Line.Link.got g.D.Line.Link.sent g.D.Line.Link.faults g.D.Line.Link.closes c.args.site c.args.shared c.args.jobs.items after c.finish_jobs.new.pass c.close-peer.result.0 c.close-peer.result.1.run
    c.requires.theirs many (λ i d h. c.run_workers-pass.ensures.each i d (omega (arith, c.args.jobs.ok.0))) c.finish_jobs.ensures.joined.theirs c.close-peer.ensures.closes
    (g.D.Door.used c.args.door.now) (g.D.Door.used c.finish_jobs.new.door) (g.D.Door.hurt c.args.door.now) (g.D.Door.hurt c.finish_jobs.new.door) c.finish_jobs.new.outcomes.items
    c.finish_jobs.ensures.used c.finish_jobs.ensures.back.hurt_are (c.finish_jobs.ensures.outcomes ∙ ap (λ l. l ++ outcomes_of after) c.requires.room.0)

pub returns-clause-ends : goal.returns-clause-ends
returns-clause-ends g c =
    let got = g.D.Line.Link.got in
    let sent = g.D.Line.Link.sent in
    let faults = g.D.Line.Link.faults in
    let closes = g.D.Line.Link.closes in
    let k = c.run_workers-pass.result.0.0 in
    let last = c.finish_jobs.new.pass in
    let joined = c.finish_jobs.ensures.joined in
    let mine : HasNumber k.view.numbers 0 = has_one 0 k.view.numbers (c.run_workers-pass.ensures.own.0.numbers ∙ ap (λ (v : View). v.numbers) c.requires.own.1) in
    let worked = links g (goal.at.returns-clause-ends g c).After-close-peer in record {
      taken = omega (arith, links_counted got sent faults closes c.args.site c.args.jobs.items _ _ _ _ _ _ worked, c.args.jobs.ok.0);
      own_steps = own_steps_in_run c.args.pass.view k.view _ c.args.site c.args.steps.now c.run_workers-pass.result.0.1 c.close-peer.result.1.run c.requires.own.1
          (c.close-peer.ensures.closes.steps 0 (joined.mine.numbers 0 mine) ∙ joined.mine.steps 0 mine) (omega (arith, joined.mine.floor, c.close-peer.ensures.closes.floor)) c.run_workers-pass.ensures.own.1;
      callers = run_of_all last.view c.close-peer.result.0 c.close-peer.result.1.run (vec_len c.args.jobs + 1)
          (joined.made ∙ c.run_workers-pass.ensures.own.0.made ∙ ap (λ (v : View). v.made) c.requires.own.1) c.close-peer.ensures.closes;
      in_run = links_stand got sent faults closes c.args.site c.args.shared c.args.jobs.items _ _ _ _ _ _ c.requires.theirs c.requires.ready worked;
    }

pub returns-clause-back : goal.returns-clause-back
returns-clause-back g c = record {
  faults_are = c.finish_jobs.ensures.back.faults_are;
  given_are = c.finish_jobs.ensures.back.given_are;
  returned_are = omega (arith, c.finish_jobs.ensures.back.returned_are, c.run_workers-pass.ensures.many);
  hurt_are = links_failed g.D.Line.Link.got g.D.Line.Link.sent g.D.Line.Link.faults g.D.Line.Link.closes c.args.site c.args.jobs.items _ _ _ _ _ _ c.requires.ready
      (links g (goal.at.returns-clause-back g c).After-close-peer);
}
