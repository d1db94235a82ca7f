use Rattle.std.proofs.Common.{◌∷◌}
use Rattle.host_core.specs.declared.event.HostEvent.TheVariants.{SecretChanged}
use Rattle.host_core.proofs.register.Register.change_secret.Given as goal

abbrev pub ghost-changed : goal.ghost-changed
ghost-changed a = SecretChanged a._by.now.0 a._by.now.1 ∷ a.self.now.items
