use Rattle.std.proofs.Common.{ap, ◌∙◌}
use Rattle.screen_read.specs.Ends.{BoardPages, told_also}
use Rattle.form_watch.proofs.ReadPages.{both_begin}
use Rattle.form_watch.proofs.watching.settle.Goals as goal

pub returns-clause-read : goal.returns-clause-read
returns-clause-read g c =
    both_begin c.args.reader c.learn.new.self c.read.new.self c.args.screen.pages c.in_ok-last.last
    (c.learn.ensures ∙ ap (λ (b : BoardPages). told_also c.args.reader b.pages) c.in_ok-told.ensures.told) c.in_ok-last.ensures
