use Rattle.std.proofs.Common.{◌+◌, ◌-◌, ◌/◌, ◌∙◌, ap, sym, arith}
use Rattle.std.specs.Ordering.{is_lt}
use Rattle.name_index.proofs.Flats.{spot_low, spot_high}
use Rattle.name_index.proofs.map.spot.Goals as goal

pub loop-low-preserved-then-is_lt : goal.loop-low-preserved-then-is_lt
loop-low-preserved-then-is_lt g c = record {
  within = omega arith;
  low = omega arith;
  past = c.loop-low.invariant.past;
  before = spot_high g.met.K.Ord.total c.args.key c.args.chunks.now (c.loop-low.low + (c.loop-low.high - c.loop-low.low) / 2) c.index-chunks-middle.result c.first.result c.requires.ordered (omega arith)
      c.index-chunks-middle.is c.first.ensures (ap is_lt (sym c.cmp.ensures) ∙ sym c.is_lt.ensures ∙ c.if-is_lt.true);
}

pub loop-low-preserved : goal.loop-low-preserved
loop-low-preserved g c = record {
  within = c.loop-low.invariant.within;
  low = omega arith;
  past = spot_low g.met.K.Ord.total c.args.key c.args.chunks.now (c.loop-low.low + (c.loop-low.high - c.loop-low.low) / 2) c.index-chunks-middle.result c.first.result c.requires.ordered (omega arith)
      c.index-chunks-middle.is c.first.ensures (ap is_lt (sym c.cmp.ensures) ∙ sym c.is_lt.ensures ∙ c.if-is_lt.false);
  before = c.loop-low.invariant.before;
}
