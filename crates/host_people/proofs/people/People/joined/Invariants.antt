use Rattle.std.proofs.Common.{◌∷◌}
use Rattle.host_people.specs.declared.change.Change.TheVariants.{Joined}
use Rattle.host_people.proofs.people.People.joined.Given as goal

abbrev pub ghost-changed : goal.ghost-changed
ghost-changed a = Joined a._by.now.0 a._by.now.1 a._by.now.2 ∷ a.self.now.items
