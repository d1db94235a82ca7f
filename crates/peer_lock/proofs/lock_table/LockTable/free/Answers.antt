use Rattle.std.proofs.Common.{rules}
use Rattle.peer_lock.proofs.Keeps.{frees_at}
use Rattle.peer_lock.proofs.lock_table.LockTable.free.Goals as goal

pub store-requires : goal.store-requires
store-requires c = (search rules, search rules, frees_at _ _ _ _ c.requires.can)
