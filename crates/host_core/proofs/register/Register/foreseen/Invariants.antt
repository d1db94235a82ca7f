use Rattle.std.proofs.Common.{◌∷◌}
use Rattle.host_core.specs.declared.event.HostEvent.TheVariants.{Made}
use Rattle.host_core.proofs.register.Register.foreseen.Given as goal

abbrev pub ghost-changed : goal.ghost-changed
ghost-changed a = Made a._by.now.0 a._by.now.1.now ∷ a.self.now.items
