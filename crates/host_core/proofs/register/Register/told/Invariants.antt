use Rattle.std.proofs.Common.{◌∷◌}
use Rattle.host_core.specs.declared.event.HostEvent.TheVariants.{Told}
use Rattle.host_core.proofs.register.Register.told.Given as goal

abbrev pub ghost-changed : goal.ghost-changed
ghost-changed a = Told a._by.now ∷ a.self.now.items
