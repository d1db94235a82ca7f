use Rattle.tomb_seq.proofs.SumLemmas.{SoFar}
use Rattle.tomb_seq.proofs.sums.regroup.Given as goal

abbrev pub invariant-loop-sum : goal.invariant-loop-sum
invariant-loop-sum l = SoFar l.parts l.rest l.groups l.sum-index
