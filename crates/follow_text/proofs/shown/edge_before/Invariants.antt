use Rattle.std.proofs.Common.{◌≡◌, ◌-◌, ◌≤◌, length, sum, take}
use Rattle.follow_text.proofs.shown.edge_before.Given as goal

abbrev pub invariant-loop-number : goal.invariant-loop-number
invariant-loop-number l = record {
  few : l.number ≤ length l.fn.sizes;
  start_is : l.start ≡ sum (take l.number l.fn.sizes);
  behind : l.start ≤ l.fn.place;
  later : l.fn.from.number ≤ l.number;
}

abbrev pub decreases-loop-number : goal.decreases-loop-number
decreases-loop-number l = length l.fn.sizes - l.number
