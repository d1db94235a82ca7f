use Rattle.std.proofs.Common.{◌≡◌, ℕ, ◌+◌, Bool, false, List, Option, Result, length, vec_len, sym, ap, ◌∙◌, subst, arith}
use Rattle.peer_step.specs.declared.step.Step.{Step}
use Rattle.peer_lock.specs.declared.call.Call.{Call}
use Rattle.peer_lock.specs.KnownPass.{KnownPass}
use Rattle.peer_lock.specs.Run.{Recorded}
use Rattle.peer_lock.specs.Rule.{newcomer}
use Rattle.session_core.specs.declared.fault.SessionFault.{SessionFault}
use Rattle.link_run.specs.declared.own.OwnEnd.{OwnEnd}
use Rattle.link_run.specs.Gathered.{EachOf}
use Rattle.link_run.specs.Jobs.{passes_of}
use Rattle.link_run.specs.Ends.{ServedAll, ServeEnds}
use Rattle.link_run.proofs.DealtPasses.{jobs_dealt, each_front, tables_of, made_of}
use Rattle.link_run.proofs.Gathering.{length-passes}
use Rattle.link_run.proofs.serving.serve.Goals as goal

-- all links were taken
as_served : {L : Type 0} (got sent : L → Option (List (List ℕ))) (faults closes : L → ℕ) (site links n : ℕ) (steps : List Step) (before used used' : Option (List L)) (own : Option OwnEnd) (failed : Bool) (outcomes : List (Option (Result ℕ SessionFault))) (run : List Call)
    → failed ≡ false → n ≡ links → before ≡ used → ServedAll got sent faults closes site n steps before used' own outcomes run
    → ServeEnds got sent faults closes site links steps used used' own failed outcomes run
as_served {L} got sent faults closes site links n steps before used used' own failed outcomes run f e u served =
    subst (λ (b : Bool). ServeEnds got sent faults closes site links steps used used' own b outcomes run) (sym f)
    (subst (λ (x : ℕ). ServedAll got sent faults closes site x steps used used' own outcomes run) e
    (subst (λ (x : Option (List L)). ServedAll got sent faults closes site n steps x used' own outcomes run) u served))

pub serve_taken-requires-clause-own : goal.serve_taken-requires-clause-own
serve_taken-requires-clause-own g c κs within =
    let js = c.take_links.new.jobs.items in
    let many : c.args.links + 1 ≡ vec_len c.take_links.new.jobs + 1 =
    omega (arith, ap (λ (l : List KnownPass). length l) c.in-Ok.ensures.all, length-passes js, c.in_ok-shared.ensures.theirs.rest, c.take_links.new.jobs.ok.0) in
    (c.in_ok-shared.ensures.own.0, c.in_ok-shared.ensures.own.1 ∙ ap (λ (n : ℕ). newcomer 0 n c.args.site) many)

pub serve_taken-requires-clause-theirs : goal.serve_taken-requires-clause-theirs
serve_taken-requires-clause-theirs g c κs within =
    jobs_dealt c.in_ok-shared.shared c.args.site (c.args.links + 1) c.in_ok-shared.passes.items c.take_links.new.jobs.items c.in_ok-shared.ensures.theirs c.in-Ok.ensures.all

pub give_back-requires-clause-idle : goal.give_back-requires-clause-idle
give_back-requires-clause-idle g c κs within = ap (λ (r : Recorded). r.run) c.in_ok-idle.ensures.1

pub give_back-requires-clause-theirs : goal.give_back-requires-clause-theirs
give_back-requires-clause-theirs g c κs within =
    each_front (λ (k : KnownPass). k.table ≡ c.in_ok-shared.shared) (passes_of c.take_links.new.jobs.items) c.in-Err.ensures.first.0
    (subst (λ (l : List KnownPass). EachOf (λ (k : KnownPass). k.table ≡ c.in_ok-shared.shared) l) c.in-Err.ensures.first.1
    (tables_of c.in_ok-shared.shared c.args.site (c.args.links + 1) c.in_ok-shared.passes.items c.in_ok-shared.ensures.theirs))

pub give_back-requires-clause-newcomers : goal.give_back-requires-clause-newcomers
give_back-requires-clause-newcomers g c κs within =
    each_front (λ (k : KnownPass). k.view.made ≡ 0) (passes_of c.take_links.new.jobs.items) c.in-Err.ensures.first.0
    (subst (λ (l : List KnownPass). EachOf (λ (k : KnownPass). k.view.made ≡ 0) l) c.in-Err.ensures.first.1
    (made_of c.in_ok-shared.shared c.args.site (c.args.links + 1) c.in_ok-shared.passes.items c.in_ok-shared.ensures.theirs))

pub returns-in-Ok-clause-ends : goal.returns-in-Ok-clause-ends
returns-in-Ok-clause-ends g c =
    let js = c.take_links.new.jobs.items in
    let many : vec_len c.take_links.new.jobs ≡ c.args.links =
    omega (arith, ap (λ (l : List KnownPass). length l) c.in-Ok.ensures.all, length-passes js, c.in_ok-shared.ensures.theirs.rest, c.take_links.new.jobs.ok.0) in
    as_served g.D.Line.Link.got g.D.Line.Link.sent g.D.Line.Link.faults g.D.Line.Link.closes c.args.site c.args.links (vec_len c.take_links.new.jobs) c.args.steps.now
    (g.D.Door.used c.take_links.new.door) (g.D.Door.used c.args.door.now) (g.D.Door.used c.serve_taken.new.door) c.serve_taken.result.own c.serve_taken.result.door_failed c.serve_taken.result.links.items c.serve_taken.result.history.run
    c.serve_taken.ensures.whole many c.in-Ok.ensures.used c.serve_taken.ensures.ends
