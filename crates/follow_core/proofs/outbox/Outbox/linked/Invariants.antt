use Rattle.std.proofs.Common.{◌∷◌}
use Rattle.follow_core.specs.declared.event.FollowEvent.TheVariants.{Linked}
use Rattle.follow_core.proofs.outbox.Outbox.linked.Given as goal

abbrev pub ghost-changed : goal.ghost-changed
ghost-changed a = Linked a._by.now ∷ a.self.now.items
