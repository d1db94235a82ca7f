use Rattle.edit_frame.proofs.Cut.{whole_gives_lent}
use Rattle.edit_frame.proofs.decoding.whole_lent.Goals as goal

pub returns : goal.returns
returns c = whole_gives_lent c.args.more c.args.bytes.now c.inner_of.result.now c.frame_of.result c.requires c.inner_of.ensures c.frame_of.ensures
