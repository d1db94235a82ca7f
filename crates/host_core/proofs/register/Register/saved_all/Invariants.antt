use Rattle.std.proofs.Common.{◌∷◌}
use Rattle.host_core.specs.declared.event.HostEvent.TheVariants.{Saved}
use Rattle.host_core.proofs.register.Register.saved_all.Given as goal

abbrev pub ghost-changed : goal.ghost-changed
ghost-changed a = Saved ∷ a.self.now.items
