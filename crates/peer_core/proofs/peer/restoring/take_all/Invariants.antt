use Rattle.std.proofs.Common.{◌≡◌, take}
use Rattle.peer_core.proofs.peer.restoring.take_all.Given as goal

abbrev pub invariant-loop-place : goal.invariant-loop-place
invariant-loop-place l = l.journal ≡ take l.place l.messages
