use Rattle.std.proofs.Common.{◌≡◌, take}
use Rattle.peer_renewal.proofs.likeness.are_same_groups.Given as goal

abbrev pub invariant-loop-place : goal.invariant-loop-place
invariant-loop-place l = take l.place l.groups ≡ take l.place l.others
