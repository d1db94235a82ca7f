use Rattle.screen_read.proofs.Shows.{shown_page}
use Rattle.screen_read.proofs.screen.show.Goals as goal

pub returns-in-Ok-new-clause-page : goal.returns-in-Ok-new-clause-page
returns-in-Ok-new-clause-page g c =
    shown_page c.args.pass.now c.step.new.pass c.in-Ok.answer c.text_in.result c.known.result c.in-Ok-new.page c.in-Ok-new.ensures c.known.ensures c.text_in.ensures c.in-Ok.ensures.steps c.in-Ok.ensures.same
