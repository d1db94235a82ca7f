use Rattle.std.proofs.Common.{◌≡◌, take}
use Rattle.host_seal.proofs.sealer.Sealer.follow.Given as goal

abbrev pub invariant-loop-place : goal.invariant-loop-place
invariant-loop-place l = l.self ≡ take l.place l.peer.journal
