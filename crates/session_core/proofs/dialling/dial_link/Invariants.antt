use Rattle.std.proofs.Common.{◌≡◌, ◌≤◌, Some, length}
use Rattle.peer_lock.specs.Answers.{IsSame}
use Rattle.session_core.specs.Events.{phase_after_turns, dialling, first_state}
use Rattle.session_core.specs.Session.{side, Talked}
use Rattle.session_core.proofs.dialling.dial_link.Given as goal

abbrev pub invariant-loop-round : goal.invariant-loop-round
invariant-loop-round g l = record {
  same : IsSame l.fn.pass l.pass;
  few : l.mark ≤ length l.pass.view.seen;
  closes : g.L.Link.closes l.link ≡ g.L.Link.closes l.fn.link;
  faults : g.L.Link.faults l.link ≡ g.L.Link.faults l.fn.link;
  talk : Talked (dialling l.validates l.rounds) (first_state (Some l.rounds)) (record { phase = phase_after_turns (Some l.rounds) l.round; mark = l.mark; turns = l.round })
      (side l.fn.pass (g.L.Link.got l.fn.link) (g.L.Link.sent l.fn.link)) (side l.pass (g.L.Link.got l.link) (g.L.Link.sent l.link));
}
