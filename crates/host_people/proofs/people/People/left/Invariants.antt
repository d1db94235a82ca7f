use Rattle.std.proofs.Common.{◌∷◌}
use Rattle.host_people.specs.declared.change.Change.TheVariants.{Left}
use Rattle.host_people.proofs.people.People.left.Given as goal

abbrev pub ghost-changed : goal.ghost-changed
ghost-changed a = Left a._by.now ∷ a.self.now.items
