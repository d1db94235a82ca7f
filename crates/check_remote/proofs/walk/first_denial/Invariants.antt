use Rattle.std.proofs.Common.{◌+◌, ◌-◌}
use Rattle.check_remote.proofs.Walking.{StandsAt}
use Rattle.check_remote.proofs.walk.first_denial.Given as goal

abbrev pub invariant-versions : goal.invariant-versions
invariant-versions g l = StandsAt (g.P.Places.names l.places) l.log l.request l.first l.at (l.last + 1) l.policy

abbrev pub decreases-versions : goal.decreases-versions
decreases-versions g l = l.last + 1 - l.at
