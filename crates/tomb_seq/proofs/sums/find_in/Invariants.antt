use Rattle.std.proofs.Common.{◌≡◌, ◌+◌}
use Rattle.tomb_seq.specs.Sums.{sum_before}
use Rattle.tomb_seq.proofs.sums.find_in.Given as goal

abbrev pub invariant-loop-rank : goal.invariant-loop-rank
invariant-loop-rank l = sum_before l.numbers l.rank + l.rest ≡ l.place
