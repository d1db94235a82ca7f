use Rattle.std.proofs.Common.{◌≡◌, take}
use Rattle.peer_disk.specs.Records.{gate_place, bytes_of_each}
use Rattle.host_people.specs.Bodies.{change_bodies}
use Rattle.host_people.proofs.book.follow_bodies.Given as goal

abbrev pub invariant-loop-body : goal.invariant-loop-body
invariant-loop-body l = record {
  place_is : l.place ≡ gate_place (bytes_of_each (take l.body-index l.bodies));
  followed : change_bodies l.people ≡ bytes_of_each (take l.body-index l.bodies);
}
