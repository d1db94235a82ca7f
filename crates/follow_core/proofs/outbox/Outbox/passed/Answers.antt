use Rattle.std.proofs.Common.{subst}
use Rattle.follow_core.specs.Happens.{IsFollowPast}
use Rattle.follow_core.proofs.Saving.{next_saved}
use Rattle.follow_core.proofs.outbox.Outbox.passed.Goals as goal

pub returns-clause-among : goal.returns-clause-among
returns-clause-among c =
    next_saved c.args.self.now c.args.known.mark c.args.message.now (subst IsFollowPast c.self.view_is c.self.invariant.past) c.requires.next c.requires.saved
