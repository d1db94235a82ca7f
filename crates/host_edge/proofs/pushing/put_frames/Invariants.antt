use Rattle.host_edge.specs.Gifts.{GivesFrames}
use Rattle.host_edge.proofs.pushing.put_frames.Given as goal

abbrev pub invariant-loop-count : goal.invariant-loop-count
invariant-loop-count g l =
    let past = g.D.HouseDocument.past in
    GivesFrames l.link l.count (past l.initial.document) (past l.document) l.initial.frames.items l.frames.items
