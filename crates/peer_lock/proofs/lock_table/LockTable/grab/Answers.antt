use Rattle.std.proofs.Common.{rules}
use Rattle.peer_lock.proofs.Keeps.{grabs_at}
use Rattle.peer_lock.proofs.lock_table.LockTable.grab.Goals as goal

pub compare_exchange-requires : goal.compare_exchange-requires
compare_exchange-requires c = (search rules, search rules, grabs_at _ _ _ _ c.requires.idle.0 c.requires.idle.1 c.requires.idle.2)
