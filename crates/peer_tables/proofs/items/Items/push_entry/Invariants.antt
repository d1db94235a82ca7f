use Rattle.std.proofs.Common.{[], ◌∷◌, ◌++◌}
use Rattle.edit_message.specs.declared.message.Message.TheVariants.{Admin}
use Rattle.peer_tables.proofs.items.Items.push_entry.Given as goal

abbrev pub ghost-changed : goal.ghost-changed
ghost-changed a = a.self.now.items ++ Admin a._by.now ∷ []
