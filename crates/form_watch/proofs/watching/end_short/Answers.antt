use Rattle.form_watch.proofs.Full.{never_full}
use Rattle.form_watch.proofs.watching.end_short.Goals as goal

pub unreachable-requires : goal.unreachable-requires
unreachable-requires c =
    never_full c.args.stopped.0 c.args.stopped.1 c.close-closed.result.0 c.close-closed.result.1.run c.requires.stopped c.close-closed.ensures.closes c.in-RunFull.is
