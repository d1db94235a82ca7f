use Rattle.std.proofs.Common.{sym}
use Rattle.screen_read.specs.Tellings.{told_lists}
use Rattle.screen_read.proofs.Growing.{reads_newest}
use Rattle.screen_read.proofs.reader.ScreenReader.read.Goals as goal

pub returns : goal.returns
returns c =
    let looked = c.in_ok-newest.ensures in
    reads_newest c.args.self.now c.self.inside.known c.self.inside.seen.value c.in_ok-newest.newest c.of.result.value (told_lists c.self.inside.told) c.in_ok-page.page c.page.result.now (sym c.self.view_is)
    c.self.invariant.1 c.self.invariant.2 looked.1.0 looked.1.1 c.page.ensures.newest c.in_ok-page.ensures c.page.ensures.ascending c.of.ensures
