use Rattle.std.proofs.Common.{◌≤◌, length, ◌-◌}
use Rattle.coop_request.specs.History.{text_order}
use Rattle.peer_core.specs.Peer.{history, shown_elements}
use Rattle.peer_core.specs.Carets.{count_up_to}
use Rattle.peer_core.proofs.peer.Peer.count_up_to.Given as goal

abbrev pub invariant-loop-low : goal.invariant-loop-low
invariant-loop-low l = record {
  passed : l.low ≤ count_up_to (text_order (history l.self)) (shown_elements l.self) l.place;
  ahead : count_up_to (text_order (history l.self)) (shown_elements l.self) l.place ≤ l.high;
  within : l.high ≤ length (shown_elements l.self);
}

abbrev pub decreases-loop-low : goal.decreases-loop-low
decreases-loop-low l = l.high - l.low
