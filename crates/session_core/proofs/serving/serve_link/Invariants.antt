use Rattle.std.proofs.Common.{◌≡◌, ◌≤◌, length}
use Rattle.peer_lock.specs.declared.limits.TheConstants.{MAX_RUN}
use Rattle.peer_lock.specs.Answers.{IsSame}
use Rattle.session_core.specs.Events.{serving}
use Rattle.session_core.specs.Session.{side, Talked}
use Rattle.session_core.specs.Pieces.{listening_from}
use Rattle.session_core.proofs.serving.serve_link.Given as goal

abbrev pub invariant-loop : goal.invariant-loop
invariant-loop g l = record {
  same : IsSame l.fn.pass l.pass;
  few : l.mark ≤ length l.pass.view.seen;
  turns_few : l.turns ≤ length l.pass.view.seen;
  turns_fit : l.turns ≤ MAX_RUN;
  closes : g.L.Link.closes l.link ≡ g.L.Link.closes l.fn.link;
  faults : g.L.Link.faults l.link ≡ g.L.Link.faults l.fn.link;
  talk : Talked (serving l.validates) (listening_from 0 0) (listening_from l.mark l.turns)
      (side l.fn.pass (g.L.Link.got l.fn.link) (g.L.Link.sent l.fn.link)) (side l.pass (g.L.Link.got l.link) (g.L.Link.sent l.link));
}
