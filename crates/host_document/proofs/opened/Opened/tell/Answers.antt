use Rattle.std.proofs.Common.{◌≡◌}
use Rattle.host_document.proofs.Saving.{all_saved}
use Rattle.host_document.proofs.opened.Opened.tell.Goals.{in-Ok, in-Err}
use Rattle.host_document.proofs.opened.Opened.tell.Goals as goal

pub returns-clause-saved : goal.returns-clause-saved
returns-clause-saved c =
    let same : c.self.inside.host.register ≡ c.args.self.now = cc (c.self.view_is) in
    elim c.match-tell.branch [
      | in-Ok w ↦ rw w.result-is (all_saved w.in-Ok.told c.args.self.now c.self.inside.host.register _ c.args.link same w.in-Ok.ensures.told w.register.ensures.past)
      | in-Err w ↦ rw w.result-is tt
    ]
