use Rattle.std.proofs.Common.{refl, ap, ◌∙◌}
use Rattle.host_core.specs.Past.{saved_journal}
use Rattle.host_core.proofs.Kept.{made_peer, kept_peer, kept_still}
use Rattle.host_core.proofs.host.Host.make.Goals as goal

pub invariant_of-self : goal.invariant_of-self
invariant_of-self g c = record {
  peer_is = kept_peer _ _ c.args.self.now.register c.args.self.now.register c.args.self.now.peer_is c.in_err-answer.ensures.unchanged refl;
  kept = kept_still g.K.Keeper.keeps _ _ (saved_journal c.args.self.now.register) (saved_journal c.args.self.now.register) refl c.make.ensures.kept c.args.self.now.kept;
}

pub invariant_of-self-2 : goal.invariant_of-self-2
invariant_of-self-2 g c = record {
  peer_is = made_peer _ _ c.args.by c.args.step _ _ c.args.self.now.peer_is c.in_ok-answer.ensures.after (c.made.ensures ∙ c.foreseen-past.ensures);
  kept = kept_still g.K.Keeper.keeps _ _ (saved_journal c.args.self.now.register) (saved_journal c.made.new.self) (ap saved_journal (c.made.ensures ∙ c.foreseen-past.ensures)) c.make.ensures.kept c.args.self.now.kept;
}
