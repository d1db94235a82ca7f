use Rattle.std.proofs.Common.{◌∷◌}
use Rattle.host_core.specs.declared.event.HostEvent.TheVariants.{PersonMade}
use Rattle.host_core.proofs.register.Register.make_person.Given as goal

abbrev pub ghost-changed : goal.ghost-changed
ghost-changed a = PersonMade a._by.now ∷ a.self.now.items
