use Rattle.std.proofs.Common.{◌≡◌, ◌+◌, ◌++◌, List, length, vec_capacity}
use Rattle.std.specs.VecDeque.{deque_len}
use Rattle.edit_io.specs.Link.{with_last}
use Rattle.link_run.specs.declared.job.Job.{Job}
use Rattle.link_run.specs.Gathered.{JoinsAll}
use Rattle.link_run.specs.Jobs.{passes_of, links_of, outcomes_of}
use Rattle.link_run.specs.Taken.{hurt_among}
use Rattle.link_run.proofs.ending.finish_jobs.Given as goal

abbrev pub invariant-loop-job : goal.invariant-loop-job
invariant-loop-job g l =
    (done : List (Job _))
    × (l.fn.jobs.items ≡ done ++ l.left.items)
    × JoinsAll l.fn.pass (passes_of done) l.pass
    × (g.D.Door.used l.door ≡ with_last (g.D.Door.used l.fn.door) (links_of done))
    × (g.D.Door.given l.door ≡ g.D.Door.given l.fn.door)
    × (g.D.Door.returned l.door ≡ g.D.Door.returned l.fn.door + length done)
    × (g.D.Door.faults l.door ≡ g.D.Door.faults l.fn.door)
    × (g.D.Door.hurt l.door ≡ g.D.Door.hurt l.fn.door + hurt_among g.D.Line.Link.faults (links_of done))
    × (l.outcomes.items ≡ l.fn.outcomes.items ++ outcomes_of done)
    × (vec_capacity l.outcomes ≡ vec_capacity l.fn.outcomes)

abbrev pub decreases-loop-job : goal.decreases-loop-job
decreases-loop-job g l = deque_len l.left
