use Rattle.std.proofs.Common.{◌+◌, sym, subst, arith}
use Rattle.peer_core.specs.Peer.{Peer}
use Rattle.peer_renewal.proofs.WritingLemmas.{IsOnTheWay, further}
use Rattle.peer_renewal.proofs.writing.write.Goals as goal

pub loop-at-preserved : goal.loop-at-preserved
loop-at-preserved c =
    subst (λ (p : Peer). IsOnTheWay p (c.loop-at.at + 1) c.args.pieces.now) (sym c.in_ok-step.ensures.after)
    (further c.loop-at.peer c.loop-at.at c.args.pieces.now c.index-pieces-at.result c.loop-at.invariant (omega arith) c.requires.few c.index-pieces-at.is c.bytes.ensures.piece)
