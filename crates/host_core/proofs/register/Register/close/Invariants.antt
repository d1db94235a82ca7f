use Rattle.std.proofs.Common.{◌∷◌}
use Rattle.host_core.specs.declared.event.HostEvent.TheVariants.{LinkClosed}
use Rattle.host_core.proofs.register.Register.close.Given as goal

abbrev pub ghost-changed : goal.ghost-changed
ghost-changed a = LinkClosed a._by.now ∷ a.self.now.items
