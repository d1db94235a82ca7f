use Rattle.std.proofs.Common.{◌≡◌, []}
use Rattle.peer_lock.specs.Rule.{newcomer}
use Rattle.peer_lock.specs.Dealt.{Others}
use Rattle.peer_lock.proofs.dealing.others.Given as goal

abbrev pub invariant-loop-number : goal.invariant-loop-number
invariant-loop-number l = (l.seat.table_id ≡ l.initial.seat.table_id) × (l.seat.me ≡ (newcomer 0 l.number l.site, [])) × Others l.lock.table.shared.table_id l.site l.number l.rest.items
