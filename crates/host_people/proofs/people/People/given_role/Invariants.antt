use Rattle.std.proofs.Common.{◌∷◌}
use Rattle.host_people.specs.declared.change.Change.TheVariants.{GivenRole}
use Rattle.host_people.proofs.people.People.given_role.Given as goal

abbrev pub ghost-changed : goal.ghost-changed
ghost-changed a = GivenRole a._by.now.0 a._by.now.1 ∷ a.self.now.items
