use Rattle.std.proofs.Common.{ap}
use Rattle.screen_read.specs.Screen.{KnownScreen}
use Rattle.screen_read.proofs.Shows.{next_page, published_as}
use Rattle.screen_read.proofs.screen.Screen.publish.Goals as goal

pub follow-requires : goal.follow-requires
follow-requires g c = let e = c.in_ok-page.ensures in next_page c.args.self.now c.args.pass.now c.show.new.pass c.in_ok-page.page e.page c.requires.pass e.same e.step c.stands.ensures

pub returns-in-Ok-clause-published : goal.returns-in-Ok-clause-published
returns-in-Ok-clause-published g c =
    let e = c.in_ok-page.ensures in
    let new = c.in-Ok.ensures.ok in
    published_as _ _ _ _ (ap (λ (s : KnownScreen). s.pass.view) new) (ap (λ (s : KnownScreen). s.pages) new)
    (next_page c.args.self.now c.args.pass.now c.show.new.pass c.in_ok-page.page e.page c.requires.pass e.same e.step c.stands.ensures)
