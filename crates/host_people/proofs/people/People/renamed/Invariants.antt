use Rattle.std.proofs.Common.{◌∷◌}
use Rattle.host_people.specs.declared.change.Change.TheVariants.{Renamed}
use Rattle.host_people.proofs.people.People.renamed.Given as goal

abbrev pub ghost-changed : goal.ghost-changed
ghost-changed a = Renamed a._by.now.0 a._by.now.1.now ∷ a.self.now.items
