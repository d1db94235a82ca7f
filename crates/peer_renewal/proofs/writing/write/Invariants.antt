use Rattle.peer_renewal.proofs.WritingLemmas.{IsOnTheWay}
use Rattle.peer_renewal.proofs.writing.write.Given as goal

abbrev pub invariant-loop-at : goal.invariant-loop-at
invariant-loop-at l = IsOnTheWay l.peer l.at l.pieces
