use Rattle.std.proofs.Common.{◌∷◌}
use Rattle.host_core.specs.declared.event.HostEvent.TheVariants.{DeviceClosed}
use Rattle.host_core.proofs.register.Register.close_device.Given as goal

abbrev pub ghost-changed : goal.ghost-changed
ghost-changed a = DeviceClosed a._by.now ∷ a.self.now.items
