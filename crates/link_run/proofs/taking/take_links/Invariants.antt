use Rattle.std.proofs.Common.{◌≡◌, ◌+◌, ◌++◌, length, vec_capacity}
use Rattle.std.specs.VecDeque.{deque_len}
use Rattle.link_run.specs.Gathered.{EachOf}
use Rattle.link_run.specs.Jobs.{passes_of}
use Rattle.link_run.specs.Taken.{IsUnservedJob}
use Rattle.link_run.proofs.taking.take_links.Given as goal

abbrev pub invariant-loop-pass : goal.invariant-loop-pass
invariant-loop-pass g l =
    (l.fn.passes.items ≡ passes_of l.jobs.items ++ l.left.items)
    × EachOf (IsUnservedJob g.D.Line.Link.got g.D.Line.Link.sent g.D.Line.Link.faults g.D.Line.Link.closes) l.jobs.items
    × (g.D.Door.given l.door ≡ g.D.Door.given l.fn.door + length l.jobs.items)
    × (g.D.Door.faults l.door ≡ g.D.Door.faults l.fn.door)
    × (g.D.Door.returned l.door ≡ g.D.Door.returned l.fn.door)
    × (g.D.Door.hurt l.door ≡ g.D.Door.hurt l.fn.door)
    × (g.D.Door.used l.door ≡ g.D.Door.used l.fn.door)
    × (vec_capacity l.jobs ≡ vec_capacity l.fn.jobs)

abbrev pub decreases-loop-pass : goal.decreases-loop-pass
decreases-loop-pass g l = deque_len l.left
