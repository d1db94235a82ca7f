use denote.Param.Send.{sendable}
use Rattle.std.proofs.Crossing.{sync}
use Rattle.peer_lock.proofs.Crossing.{of_shared_peers}
use Rattle.link_run.proofs.run.run_workers.Goals as goal

pub join-requires-send-F : goal.join-requires-send-F
join-requires-send-F g c κs within = search (sendable, sync, of_shared_peers) depth 20

pub join-requires-send-A : goal.join-requires-send-A
join-requires-send-A g c κs within = search (sendable, of_shared_peers) depth 20
