use Rattle.host_seal.proofs.Faults.{faults, growth}
use Rattle.host_seal.proofs.laws.faults.Goals as goal

pub returns : goal.returns
returns c = record { fault = faults; growth = growth }
