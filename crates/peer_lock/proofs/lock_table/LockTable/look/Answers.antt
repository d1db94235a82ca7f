use Rattle.std.proofs.Common.{rules}
use Rattle.peer_lock.proofs.Keeps.{looks_at}
use Rattle.peer_lock.proofs.lock_table.LockTable.look.Goals as goal

pub load-requires : goal.load-requires
load-requires c = (search rules, search rules, looks_at _ _ _ _ c.requires.live)
