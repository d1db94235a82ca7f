use Rattle.std.proofs.Common.{◌≡◌, true, arith}
use Rattle.host_edge.proofs.GiftLemmas.{one_more}
use Rattle.host_edge.proofs.pushing.put_frames.Goals as goal

pub loop-count-preserved : goal.loop-count-preserved
loop-count-preserved g c =
    let past = g.D.HouseDocument.past in
    let is_put : c.in_ok-put_next.field-0 ≡ true = grind (arith, c.if-not-branch.false) in
    let put = c.in_ok-put_next.ensures.put is_put in
    one_more c.args.link c.loop-count.count put.0 (past c.args.document.now) (past c.loop-count.document) (past c.put_next.new.document)
    c.args.frames.now.items c.loop-count.frames.items c.put_next.new.frames.items c.loop-count.invariant put.1 put.2
