use Rattle.std.proofs.Common.{◌∷◌}
use Rattle.host_people.specs.declared.change.Change.TheVariants.{Uninvited}
use Rattle.host_people.proofs.people.People.uninvited.Given as goal

abbrev pub ghost-changed : goal.ghost-changed
ghost-changed a = Uninvited a._by.now ∷ a.self.now.items
