use Rattle.std.proofs.Common.{◌≡◌, ◌≤◌, length}
use Rattle.peer_lock.specs.Answers.{IsSame}
use Rattle.session_core.specs.Events.{SessionState, Mode, Listens, in_phase}
use Rattle.session_core.specs.Session.{side, Talked}
use Rattle.session_core.proofs.turns.receive_turn.Given as goal

abbrev pub invariant-loop : goal.invariant-loop
invariant-loop g l = record {
  same : IsSame l.fn.pass l.pass;
  grown : length l.fn.pass.view.seen ≤ length l.pass.view.seen;
  closes : g.L.Link.closes l.link ≡ g.L.Link.closes l.fn.link;
  faults : g.L.Link.faults l.link ≡ g.L.Link.faults l.fn.link;
  talk : (mode : Mode) (s : SessionState) → Talked mode (in_phase Listens s) (in_phase Listens s)
      (side l.fn.pass (g.L.Link.got l.fn.link) (g.L.Link.sent l.fn.link)) (side l.pass (g.L.Link.got l.link) (g.L.Link.sent l.link));
}
