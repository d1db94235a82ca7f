use Rattle.link_run.proofs.DealtPasses.{idle_run}
use Rattle.link_run.proofs.dealing.idle_peer.Goals as goal

pub returns : goal.returns
returns c = idle_run c.in_ok-shared.pass.view c.close.result.0 c.close.result.1 c.args.site c.in_ok-shared.ensures.1 c.close.ensures.closes c.close.ensures.site
