use Rattle.std.proofs.Common.{take}
use Rattle.std.specs.List.{All}
use Rattle.peer_renewal.specs.Coverage.{covered_bytes, kept_objects}
use Rattle.peer_renewal.specs.Cutting.{HasEdges}
use Rattle.peer_renewal.proofs.breaks.breaks_of.Given as goal

abbrev pub invariant-loop-object : goal.invariant-loop-object
invariant-loop-object l = All (λ o. HasEdges (covered_bytes l.old o.extent) l.breaks.items) (kept_objects (take l.object-index l.object-items))
