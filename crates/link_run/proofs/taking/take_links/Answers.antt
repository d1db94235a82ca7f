use Rattle.std.proofs.Common.{◌≡◌, ◌++◌, ◌∷◌, [], None, length, refl, sym, ap, ◌∙◌, subst, arith, append_assoc, length-append}
use Rattle.link_run.specs.declared.job.Job.{Job}
use Rattle.link_run.specs.Gathered.{EachOf}
use Rattle.link_run.specs.Jobs.{passes_of}
use Rattle.link_run.specs.Taken.{IsUnservedJob}
use Rattle.link_run.proofs.Gathering.{passes-append, length-passes, each_last}
use Rattle.link_run.proofs.taking.take_links.Goals as goal

pub listen-requires : goal.listen-requires
listen-requires g c = record { faults_left = c.requires.door.faults_left; given_left = omega (arith, c.requires.door.given_left) }

pub accept-requires : goal.accept-requires
accept-requires g c =
    let inv = c.loop-pass.invariant in record {
      faults_left = omega (arith, c.requires.door.faults_left, inv.3);
      given_left = omega (arith, c.requires.door.given_left, inv.2, ap length inv.0, length-append (passes_of c.loop-pass.jobs.items) c.loop-pass.left.items, length-passes c.loop-pass.jobs.items);
    }

pub push_reserved-requires : goal.push_reserved-requires
push_reserved-requires g c =
    let inv = c.loop-pass.invariant in
    let front = passes_of c.loop-pass.jobs.items in
    let back = c.in-Some.pass ∷ c.pop_front.new.self.items in
    let split : c.args.passes.items ≡ front ++ back = inv.0 ∙ ap (λ l. front ++ l) c.in-Some.ensures.items in
    omega (arith, ap length split, length-append front back, length-passes c.loop-pass.jobs.items, inv.7, c.requires.room.1, c.args.passes.ok.0, c.loop-pass.jobs.ok.0)

pub loop-pass-preserved : goal.loop-pass-preserved
loop-pass-preserved g c =
    let inv = c.loop-pass.invariant in
    let jobs = c.loop-pass.jobs.items in
    let rest = c.pop_front.new.self.items in
    let job : Job _ = record { pass = c.in-Some.pass; link = c.in_ok-link.link; outcome = None } in
    let split : c.args.passes.items ≡ passes_of jobs ++ (c.in-Some.pass ∷ rest) = inv.0 ∙ ap (λ l. passes_of jobs ++ l) c.in-Some.ensures.items in
    let pushed : c.push_reserved.new.self.items ≡ jobs ++ job ∷ [] = c.push_reserved.ensures.items in (
      split ∙ sym (append_assoc (passes_of jobs) (c.in-Some.pass ∷ []) rest) ∙ ap (λ ks. ks ++ rest) (sym (passes-append jobs (job ∷ []))) ∙ ap (λ js. passes_of js ++ rest) (sym pushed),
      subst (EachOf (IsUnservedJob g.D.Line.Link.got g.D.Line.Link.sent g.D.Line.Link.faults g.D.Line.Link.closes)) (sym pushed)
          (each_last (IsUnservedJob g.D.Line.Link.got g.D.Line.Link.sent g.D.Line.Link.faults g.D.Line.Link.closes) jobs job inv.1 record { unused = c.in_ok-link.ensures.unused; unended = refl }),
      omega (arith, c.in_ok-link.ensures.given, inv.2, ap length pushed, length-append jobs (job ∷ [])),
      omega (arith, c.in_ok-link.ensures.faults, inv.3),
      c.accept.ensures.returned ∙ inv.4,
      c.accept.ensures.hurt ∙ inv.5,
      c.accept.ensures.used ∙ inv.6,
      c.push_reserved.ensures.capacity ∙ inv.7,
    )
