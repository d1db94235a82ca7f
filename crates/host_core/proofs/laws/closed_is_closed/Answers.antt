use Rattle.host_core.proofs.Closing.{closed, device_closed}
use Rattle.host_core.proofs.Samples.{closed_sample, device_closed_sample}
use Rattle.host_core.proofs.laws.closed_is_closed.Goals as goal

pub returns : goal.returns
returns c = record { link = closed; device = device_closed; link_sample = closed_sample; device_sample = device_closed_sample }
