use Rattle.std.proofs.Common.{◌∷◌}
use Rattle.follow_core.specs.declared.event.FollowEvent.TheVariants.{Made}
use Rattle.follow_core.proofs.outbox.Outbox.foreseen.Given as goal

abbrev pub ghost-changed : goal.ghost-changed
ghost-changed a = Made a._by.now ∷ a.self.now.items
