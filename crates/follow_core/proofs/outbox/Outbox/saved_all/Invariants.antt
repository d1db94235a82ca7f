use Rattle.std.proofs.Common.{◌∷◌}
use Rattle.follow_core.specs.declared.event.FollowEvent.TheVariants.{Saved}
use Rattle.follow_core.proofs.outbox.Outbox.saved_all.Given as goal

abbrev pub ghost-changed : goal.ghost-changed
ghost-changed a = Saved ∷ a.self.now.items
