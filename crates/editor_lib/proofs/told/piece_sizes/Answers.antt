use Rattle.std.proofs.Common.{sym}
use Rattle.editor_lib.proofs.SizeLemmas.{sizes_more}
use Rattle.editor_lib.proofs.told.piece_sizes.Goals as goal

pub loop-place-preserved : goal.loop-place-preserved
loop-place-preserved c =
    let more = sizes_more c.args.text.now c.loop-place.place c.in-Some.size (sym c.in-Some.ensures) in
    cc (c.in_ok-push.ensures.items, c.loop-place.invariant)
