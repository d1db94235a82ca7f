use Rattle.std.proofs.Common.{◌≡◌, map, take}
use Rattle.peer_renewal.proofs.likeness.are_same_auths.Given as goal

abbrev pub invariant-loop-place : goal.invariant-loop-place
invariant-loop-place l = map (λ a. a.auth) (take l.place l.auths) ≡ map (λ a. a.auth) (take l.place l.others)
