use Rattle.std.proofs.Common.{◌∷◌}
use Rattle.follow_core.specs.declared.event.FollowEvent.TheVariants.{CameBack}
use Rattle.follow_core.proofs.outbox.Outbox.came_back.Given as goal

abbrev pub ghost-changed : goal.ghost-changed
ghost-changed a = CameBack a._by.now ∷ a.self.now.items
