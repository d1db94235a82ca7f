use Rattle.std.proofs.Common.{◌-◌, ◌≤◌, length, take, drop}
use Rattle.name_index.specs.Chunks.{IsPast, IsUpTo}
use Rattle.name_index.proofs.chunk.place.Given as goal

abbrev pub invariant-loop-low : goal.invariant-loop-low
invariant-loop-low g l = record {
  within : l.high ≤ length l.entries;
  low : l.low ≤ l.high;
  past : IsPast (g.K.Ord.cmp l.key) (take l.low l.entries);
  up_to : IsUpTo (g.K.Ord.cmp l.key) (drop l.high l.entries);
}

abbrev pub decreases-loop-low : goal.decreases-loop-low
decreases-loop-low g l = l.high - l.low
