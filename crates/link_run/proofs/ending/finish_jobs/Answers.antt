use Rattle.std.proofs.Common.{◌≡◌, ◌∷◌, ◌++◌, [], length, refl, sym, ap, ◌∙◌, subst, append_assoc, append-nil, arith, length-append}
use Rattle.edit_io.specs.Link.{with_last}
use Rattle.peer_lock.specs.KnownPass.{KnownPass}
use Rattle.session_core.proofs.Talks.{with_last-append, with_last-nil}
use Rattle.link_run.specs.Gathered.{JoinsAll}
use Rattle.link_run.specs.Jobs.{passes_of, links_of, outcomes_of}
use Rattle.link_run.specs.Taken.{hurt_among}
use Rattle.link_run.proofs.Gathering.{joins_none, joins_last, passes-append, links-append, outcomes-append, length-outcomes, pass_at, hurt-last}
use Rattle.link_run.proofs.ending.finish_jobs.Goals as goal

pub loop-job-init : goal.loop-job-init
loop-job-init g c = (
  [],
  sym c.from_vec-left.ensures.items,
  joins_none c.args.pass.now,
  sym (with_last-nil (g.D.Door.used c.args.door.now)),
  refl,
  omega arith,
  refl,
  omega arith,
  sym (append-nil c.args.outcomes.now.items),
  refl,
)

pub loop-job-preserved : goal.loop-job-preserved
loop-job-preserved g c =
    let inv = c.loop-job.invariant in
    let done = inv.0 in
    let job = c.in-Some.job in
    let back = c.pop_front.new.self.items in
    let split : c.args.jobs.items ≡ done ++ (job ∷ back) = inv.1 ∙ ap (λ l. done ++ l) c.in-Some.ensures.items in
    let none = pass_at (λ (k : KnownPass). k.view.made ≡ 0) c.args.jobs.items done job back split c.requires.newcomers in (
      done ++ job ∷ [],
      split ∙ sym (append_assoc done (job ∷ []) back),
      subst (λ ks. JoinsAll c.args.pass.now ks c.join.new.pass) (sym (passes-append done (job ∷ [])))
          (joins_last c.args.pass.now (passes_of done) c.loop-job.pass job.pass c.join.new.pass inv.2 c.join.ensures.own.0 c.join.ensures.joins none),
      c.back.ensures.used ∙ ap (λ o. with_last o (job.link ∷ [])) inv.3 ∙ with_last-append (g.D.Door.used c.args.door.now) (links_of done) (job.link ∷ []) ∙ ap (with_last (g.D.Door.used c.args.door.now)) (sym (links-append done (job ∷ []))),
      c.back.ensures.given ∙ inv.4,
      omega (arith, c.back.ensures.returned, inv.5, length-append done (job ∷ [])),
      c.back.ensures.faults ∙ inv.6,
      omega (arith, c.back.ensures.hurt, inv.7, ap (hurt_among g.D.Line.Link.faults) (links-append done (job ∷ [])), hurt-last g.D.Line.Link.faults (links_of done) job.link),
      c.push_reserved.ensures.items ∙ ap (λ l. l ++ job.outcome ∷ []) inv.8 ∙ append_assoc c.args.outcomes.now.items (outcomes_of done) (job.outcome ∷ []) ∙ ap (λ l. c.args.outcomes.now.items ++ l) (sym (outcomes-append done (job ∷ []))),
      c.push_reserved.ensures.capacity ∙ inv.9,
    )

pub join-requires-clause-theirs : goal.join-requires-clause-theirs
join-requires-clause-theirs g c =
    let inv = c.loop-job.invariant in
    let split : c.args.jobs.items ≡ inv.0 ++ (c.in-Some.job ∷ c.pop_front.new.self.items) = inv.1 ∙ ap (λ l. inv.0 ++ l) c.in-Some.ensures.items in
    pass_at (λ (k : KnownPass). k.table ≡ c.args.shared.now) c.args.jobs.items inv.0 c.in-Some.job c.pop_front.new.self.items split c.requires.theirs

pub push_reserved-requires : goal.push_reserved-requires
push_reserved-requires g c =
    let inv = c.loop-job.invariant in
    let split : c.args.jobs.items ≡ inv.0 ++ (c.in-Some.job ∷ c.pop_front.new.self.items) = inv.1 ∙ ap (λ l. inv.0 ++ l) c.in-Some.ensures.items in
    omega (arith, ap length inv.8, length-append c.args.outcomes.now.items (outcomes_of inv.0), length-outcomes inv.0, inv.9, ap length split, length-append inv.0 (c.in-Some.job ∷ c.pop_front.new.self.items), c.requires.room, c.loop-job.outcomes.ok.0, c.args.outcomes.now.ok.0, c.args.jobs.ok.0)
