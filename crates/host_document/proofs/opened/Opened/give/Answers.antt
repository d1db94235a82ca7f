use Rattle.std.proofs.Common.{◌≡◌}
use Rattle.host_document.proofs.Saving.{given_saved}
use Rattle.host_document.proofs.opened.Opened.give.Goals as goal

pub returns-clause-saved : goal.returns-clause-saved
returns-clause-saved c =
    let same : c.self.inside.host.register ≡ c.args.self.now = cc (c.self.view_is) in
    given_saved c.in_ok-found.found c.args.self.now c.self.inside.host.register _ c.args.link same c.in_ok-found.ensures.given c.register.ensures.past
