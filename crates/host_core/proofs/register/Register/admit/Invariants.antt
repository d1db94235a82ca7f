use Rattle.std.proofs.Common.{◌∷◌}
use Rattle.host_core.specs.declared.event.HostEvent.TheVariants.{LinkOpened}
use Rattle.host_core.proofs.register.Register.admit.Given as goal

abbrev pub ghost-changed : goal.ghost-changed
ghost-changed a = LinkOpened a._by.now ∷ a.self.now.items
