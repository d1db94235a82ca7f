use Rattle.std.proofs.Common.{◌∷◌}
use Rattle.host_core.specs.declared.event.HostEvent.TheVariants.{DeviceMade}
use Rattle.host_core.proofs.register.Register.make_device.Given as goal

abbrev pub ghost-changed : goal.ghost-changed
ghost-changed a = DeviceMade a._by.now.0 a._by.now.1 ∷ a.self.now.items
