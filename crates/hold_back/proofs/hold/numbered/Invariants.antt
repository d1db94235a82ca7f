use Rattle.std.proofs.Common.{◌≤◌, ◌<◌, ◌-◌, length, take}
use Rattle.std.specs.List.{All}
use Rattle.hold_back.specs.Index.{AreTicketsOf}
use Rattle.hold_back.proofs.hold.numbered.Given as goal

abbrev pub invariant-loop-i : goal.invariant-loop-i
invariant-loop-i l = record {
  low : l.i ≤ length l.held;
  rows : AreTicketsOf (take l.i l.held) l.index;
  below : All (λ a. a < l.i) l.index.arrivals.items;
}

abbrev pub decreases-loop-i : goal.decreases-loop-i
decreases-loop-i l = length l.held - l.i
