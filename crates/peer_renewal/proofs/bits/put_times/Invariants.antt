use Rattle.std.proofs.Common.{◌≡◌, ◌++◌, replicate}
use Rattle.peer_renewal.proofs.bits.put_times.Given as goal

abbrev pub invariant-loop-n : goal.invariant-loop-n
invariant-loop-n l = l.bits.items ≡ l.initial.bits.items ++ replicate l.n l.bit
