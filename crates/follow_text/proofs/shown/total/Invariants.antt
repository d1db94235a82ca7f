use Rattle.std.proofs.Common.{◌≡◌, take, sum}
use Rattle.follow_text.proofs.shown.total.Given as goal

abbrev pub invariant-loop-size : goal.invariant-loop-size
invariant-loop-size l = l.total ≡ sum (take l.size-index l.sizes)
