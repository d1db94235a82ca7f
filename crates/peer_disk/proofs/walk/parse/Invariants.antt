use Rattle.std.proofs.Common.{◌≡◌, ◌++◌, length, All}
use Rattle.peer_disk.specs.Records.{records, FitsRecord, bytes_of_each}
use Rattle.peer_disk.proofs.walk.parse.Given as goal

abbrev pub invariant-loop-body : goal.invariant-loop-body
invariant-loop-body l = record { read : l.bytes ≡ records (bytes_of_each l.bodies.items) ++ l.rest; short : All FitsRecord (bytes_of_each l.bodies.items) }

abbrev pub decreases-loop-body : goal.decreases-loop-body
decreases-loop-body l = length l.rest
