use Rattle.admin_log.proofs.Logs as logs
use Rattle.admin_log.proofs.laws.prefix_is_log.Goals as goal

pub returns : goal.returns
returns c = logs.prefix_is_log
