use Rattle.std.proofs.Common.{◌≡◌, take}
use Rattle.peer_renewal.proofs.bits.are_same_bits.Given as goal

abbrev pub invariant-loop-place : goal.invariant-loop-place
invariant-loop-place l = take l.place l.bits ≡ take l.place l.others
