use Rattle.std.proofs.Common.{[], ◌∷◌, ◌++◌}
use Rattle.edit_message.specs.declared.message.Message.TheVariants.{Coop}
use Rattle.peer_tables.proofs.items.Items.push_request.Given as goal

abbrev pub ghost-changed : goal.ghost-changed
ghost-changed a = a.self.now.items ++ Coop a._by.now ∷ []
