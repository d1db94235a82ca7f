use Rattle.std.proofs.Common.{◌≡◌, take}
use Rattle.peer_outlook.proofs.outlook.journal_of.Given as goal

abbrev pub invariant-loop-i : goal.invariant-loop-i
invariant-loop-i l = l.messages.items ≡ take l.i l.peer.journal
