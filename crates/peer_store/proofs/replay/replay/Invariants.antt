use Rattle.std.proofs.Common.{◌≡◌, take}
use Rattle.peer_disk.specs.Records.{gate_place, bytes_of_each}
use Rattle.peer_store.specs.Replay.{IsReplay}
use Rattle.peer_store.proofs.replay.replay.Given as goal

abbrev pub invariant-loop-body : goal.invariant-loop-body
invariant-loop-body l = record {
  place_is : l.place ≡ gate_place (bytes_of_each (take l.body-index l.bodies));
  replayed : IsReplay l.fn.peer (bytes_of_each (take l.body-index l.bodies)) l.peer;
}
