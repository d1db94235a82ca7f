use Rattle.std.proofs.Common.{[], ◌∷◌}
use Rattle.follow_core.specs.declared.event.FollowEvent.TheVariants.{Began}
use Rattle.follow_core.proofs.outbox.Outbox.new.Given as goal

abbrev pub ghost-changed : goal.ghost-changed
ghost-changed a = Began a._by.now.0.now a._by.now.1 ∷ []
