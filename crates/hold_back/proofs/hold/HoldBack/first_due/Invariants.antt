use Rattle.std.proofs.Common.{◌-◌, length}
use Rattle.hold_back.proofs.FirstDue.{NoneBefore}
use Rattle.hold_back.proofs.hold.HoldBack.first_due.Given as goal

abbrev pub invariant-loop-place : goal.invariant-loop-place
invariant-loop-place g l = NoneBefore (g.T.Due.is_due l.test) l.self l.from

abbrev pub decreases-loop-place : goal.decreases-loop-place
decreases-loop-place g l = length l.self - l.from
