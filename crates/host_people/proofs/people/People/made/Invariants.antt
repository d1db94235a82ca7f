use Rattle.std.proofs.Common.{◌∷◌}
use Rattle.host_people.specs.declared.change.Change.TheVariants.{Made}
use Rattle.host_people.proofs.people.People.made.Given as goal

abbrev pub ghost-changed : goal.ghost-changed
ghost-changed a = Made a._by.now.0 a._by.now.1 a._by.now.2.now ∷ a.self.now.items
