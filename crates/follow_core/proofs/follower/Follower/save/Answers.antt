use Rattle.std.proofs.Common.{refl}
use Rattle.follow_core.specs.Past.{follow_saved}
use Rattle.host_core.proofs.Kept.{kept_still}
use Rattle.follow_core.proofs.Kept.{kept_peer}
use Rattle.follow_core.proofs.follower.Follower.save.Goals as goal

pub invariant_of-self : goal.invariant_of-self
invariant_of-self g c = record {
  peer_is = kept_peer _ _ c.args.self.now.outbox c.args.self.now.outbox c.args.self.now.peer_is c.save.ensures.peer refl;
  kept = kept_still g.K.Keeper.keeps _ _ (follow_saved c.args.self.now.outbox) (follow_saved c.args.self.now.outbox) refl c.save.ensures.kept c.args.self.now.kept;
}
