use Rattle.std.proofs.Common.{◌∷◌}
use Rattle.follow_core.specs.declared.event.FollowEvent.TheVariants.{Passed}
use Rattle.follow_core.proofs.outbox.Outbox.passed.Given as goal

abbrev pub ghost-changed : goal.ghost-changed
ghost-changed a = Passed a._by.now ∷ a.self.now.items
