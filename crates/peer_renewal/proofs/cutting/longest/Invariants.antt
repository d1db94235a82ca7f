use Rattle.std.proofs.Common.{◌≡◌, ℕ, ◌<◌, false}
use Rattle.peer_renewal.specs.Cutting.{breaks_at}
use Rattle.peer_renewal.proofs.cutting.longest.Given as goal

abbrev pub invariant-loop-size : goal.invariant-loop-size
invariant-loop-size l = (k : ℕ) → 0 < k → k < l.size → breaks_at l.breaks k ≡ false
