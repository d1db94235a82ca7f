use denote.Param.Send.{sendable}
use Rattle.link_run.proofs.Crossing.{of_workers}
use Rattle.link_run.proofs.work.serve_links.Goals as goal

pub for_each_mut-requires-send-T : goal.for_each_mut-requires-send-T
for_each_mut-requires-send-T g c κs within = search (sendable, of_workers) depth 20

pub for_each_mut-requires-sync-F : goal.for_each_mut-requires-sync-F
for_each_mut-requires-sync-F g c κs within = search (sendable, of_workers) depth 20
