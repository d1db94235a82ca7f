use Rattle.std.proofs.Common.{[], ◌∷◌}
use Rattle.host_core.specs.declared.event.HostEvent.TheVariants.{Began}
use Rattle.host_core.proofs.register.Register.new.Given as goal

abbrev pub ghost-changed : goal.ghost-changed
ghost-changed a = Began a._by.now.0.now a._by.now.1 ∷ []
