use Rattle.std.proofs.Common.{length, rules, ap, arith}
use Rattle.peer_lock.specs.Rule.{Seated}
use Rattle.peer_lock.proofs.Keeps.{counts_at}
use Rattle.peer_lock.proofs.Ways.{counted_length}
use Rattle.peer_lock.proofs.lock_table.LockTable.count.Goals as goal

pub fetch_add-requires : goal.fetch_add-requires
fetch_add-requires c = (search rules, search rules, counts_at _ _ _ _ c.requires.can)

pub overflow_add-result : goal.overflow_add-result
overflow_add-result c = omega (arith, c.fetch_add.ensures.2.0, c.requires.can.room)

pub returns-clause-all : goal.returns-clause-all
returns-clause-all c =
    omega (arith, c.fetch_add.ensures.2.0, counted_length c.args.seat.now.me c.requires.can, ap (λ (m : Seated). length m.0.seen) c.fetch_add.ensures.2.1)
