use Rattle.std.proofs.Common.{◌-◌, length, take}
use Rattle.peer_tables.proofs.items.Items.cut_last.Given as goal

abbrev pub ghost-changed : goal.ghost-changed
ghost-changed a = take (length a.self.now.items - 1) a.self.now.items
