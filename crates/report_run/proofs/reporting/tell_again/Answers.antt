use Rattle.std.proofs.Common.{ap, ◌∙◌}
use Rattle.peer_core.specs.Peer.{fresh_peer}
use Rattle.report_run.proofs.Tellings.{from_fresh}
use Rattle.report_run.proofs.reporting.tell_again.Goals as goal

pub returns-in-Ok-clause-tells : goal.returns-in-Ok-clause-tells
returns-in-Ok-clause-tells g c =
    let history = c.args.history.now in
    from_fresh _ _ history.site _ history.run _ (c.in-Ok.ensures ∙ ap fresh_peer c.site.ensures) c.tell_from-told.ensures.tells
