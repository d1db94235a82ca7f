use Rattle.std.proofs.Common.{subst}
use Rattle.follow_core.specs.Happens.{IsFollowPast}
use Rattle.follow_core.proofs.Saving.{all_saved}
use Rattle.follow_core.proofs.outbox.Outbox.told.Goals as goal

pub returns-clause-whole : goal.returns-clause-whole
returns-clause-whole c = all_saved c.args.self.now (subst IsFollowPast c.self.view_is c.self.invariant.past) c.requires
