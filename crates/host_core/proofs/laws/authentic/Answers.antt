use Rattle.host_core.proofs.Coming.{authentic, ordered}
use Rattle.host_core.proofs.Samples.{authentic_sample, ordered_sample}
use Rattle.host_core.proofs.laws.authentic.Goals as goal

pub returns : goal.returns
returns c = record { requests = authentic; entries = ordered; request_sample = authentic_sample; entry_sample = ordered_sample }
