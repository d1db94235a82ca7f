use Rattle.peer_lock.proofs.Ways.{has_slot, can_count, can_free}
use Rattle.peer_lock.proofs.lock_table.LockTable.go.Goals as goal

pub enter-requires-clause-slot : goal.enter-requires-clause-slot
enter-requires-clause-slot g c = has_slot c.args.seat.now.me c.grab.new.seat.me c.if-not-grab.ensures.moves

pub count-count-requires-clause-can : goal.count-count-requires-clause-can
count-count-requires-clause-can g c = can_count c.args.seat.now.me c.grab.new.seat.me c.enter.new.seat.me c.args.caller c.args.step c.in-Ok.answer c.if-not-grab.ensures.moves c.in-Ok.ensures.moves c.requires.idle.3 c.requires.idle.4

pub free-requires-clause-can : goal.free-requires-clause-can
free-requires-clause-can g c = can_free c.args.seat.now.me c.grab.new.seat.me c.enter.new.seat.me c.count-count.new.seat.me c.args.caller c.args.step c.in-Ok.answer c.if-not-grab.ensures.moves c.in-Ok.ensures.moves c.count-count.ensures.moves
