-- A job goes to other threads where its link does.
use denote.RattleType.{RattleType}
use denote.Param.Send.{IsSend, sendable}
use Rattle.std.proofs.Crossing.{sync, crosses}
use Rattle.peer_lock.proofs.Crossing.{Pass-send, of_shared_peers}
use Rattle.session_core.specs.contracts.fault.SessionFault as SessionFault
use Rattle.link_run.specs.contracts.job.Job as Job

SessionFault-send : IsSend SessionFault.the_row
SessionFault-send = search (sendable, crosses) depth 100 fits 100000

pub Job-send : (L : RattleType) → IsSend L → IsSend (Job.the_row L)
Job-send L s = search (Pass-send, SessionFault-send, sendable, crosses) depth 100 fits 100000

-- what a search takes for the workers of links
pub ruleset of_workers = (Job-send, sync, of_shared_peers)
