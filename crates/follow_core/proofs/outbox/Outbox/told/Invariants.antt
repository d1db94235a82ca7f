use Rattle.std.proofs.Common.{◌∷◌}
use Rattle.follow_core.specs.declared.event.FollowEvent.TheVariants.{Told}
use Rattle.follow_core.proofs.outbox.Outbox.told.Given as goal

abbrev pub ghost-changed : goal.ghost-changed
ghost-changed a = Told ∷ a.self.now.items
