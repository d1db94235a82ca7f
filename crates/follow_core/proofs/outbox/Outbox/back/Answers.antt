use Rattle.std.proofs.Common.{subst}
use Rattle.follow_core.specs.Happens.{IsFollowPast}
use Rattle.follow_core.proofs.Saving.{back_saved}
use Rattle.follow_core.proofs.outbox.Outbox.back.Goals as goal

pub returns-clause-saved : goal.returns-clause-saved
returns-clause-saved c = back_saved c.args.self.now (subst IsFollowPast c.self.view_is c.self.invariant.past)
