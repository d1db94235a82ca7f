use Rattle.std.proofs.Common.{◌-◌, ◌<◌, ◌≤◌, length, take, drop}
use Rattle.name_index.specs.Chunks.{flat, IsPast, IsBefore}
use Rattle.name_index.proofs.map.spot.Given as goal

abbrev pub invariant-loop-low : goal.invariant-loop-low
invariant-loop-low g l = record {
  within : l.high ≤ length l.chunks;
  low : l.low < l.high;
  past : IsPast (g.K.Ord.cmp l.key) (flat (take l.low l.chunks));
  before : IsBefore (g.K.Ord.cmp l.key) (flat (drop l.high l.chunks));
}

abbrev pub decreases-loop-low : goal.decreases-loop-low
decreases-loop-low g l = l.high - l.low
