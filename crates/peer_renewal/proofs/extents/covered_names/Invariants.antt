use Rattle.std.proofs.Common.{◌≡◌, ◌+◌, ◌++◌, drop}
use Rattle.peer_renewal.specs.Extents.{covered_names}
use Rattle.peer_renewal.proofs.extents.covered_names.Given as goal

abbrev pub invariant-loop-place : goal.invariant-loop-place
invariant-loop-place l = l.names.items ++ covered_names (l.place + 1) l.left (drop l.place l.pieces) ≡ covered_names 1 l.covered l.pieces
