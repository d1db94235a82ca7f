use Rattle.std.proofs.Common.{◌+◌, ◌-◌, ◌/◌, ◌∙◌, ap, sym, arith}
use Rattle.std.specs.Ordering.{is_gt}
use Rattle.name_index.proofs.Entries.{low_side, high_side}
use Rattle.name_index.proofs.chunk.place.Goals as goal

pub loop-low-preserved-then-is_gt : goal.loop-low-preserved-then-is_gt
loop-low-preserved-then-is_gt g c = record {
  within = c.loop-low.invariant.within;
  low = omega arith;
  past = low_side g.met.K.Ord.total c.args.key c.args.entries.now (c.loop-low.low + (c.loop-low.high - c.loop-low.low) / 2) c.index-entries-middle.result c.requires.ordered (omega arith) (ap is_gt (sym c.cmp.ensures) ∙ sym c.is_gt.ensures ∙ c.if-is_gt.true);
  up_to = c.loop-low.invariant.up_to;
}

pub loop-low-preserved : goal.loop-low-preserved
loop-low-preserved g c = record {
  within = omega arith;
  low = omega arith;
  past = c.loop-low.invariant.past;
  up_to = high_side g.met.K.Ord.total c.args.key c.args.entries.now (c.loop-low.low + (c.loop-low.high - c.loop-low.low) / 2) c.index-entries-middle.result c.requires.ordered (omega arith) (ap is_gt (sym c.cmp.ensures) ∙ sym c.is_gt.ensures ∙ c.if-is_gt.false);
}
