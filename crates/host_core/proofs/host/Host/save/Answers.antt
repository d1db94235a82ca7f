use Rattle.std.proofs.Common.{refl}
use Rattle.host_core.specs.Past.{saved_journal}
use Rattle.host_core.proofs.Kept.{kept_peer, kept_still}
use Rattle.host_core.proofs.host.Host.save.Goals as goal

pub invariant_of-self : goal.invariant_of-self
invariant_of-self g c = record {
  peer_is = kept_peer _ _ c.args.self.now.register c.args.self.now.register c.args.self.now.peer_is c.save.ensures.peer refl;
  kept = kept_still g.K.Keeper.keeps _ _ (saved_journal c.args.self.now.register) (saved_journal c.args.self.now.register) refl c.save.ensures.kept c.args.self.now.kept;
}
