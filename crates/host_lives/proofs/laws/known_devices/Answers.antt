use Rattle.host_lives.proofs.Lasting.{one_device}
use Rattle.host_lives.proofs.Requests.{known_device}
use Rattle.host_lives.proofs.Records.{recorded_device}
use Rattle.host_lives.proofs.Samples.{known_device_sample}
use Rattle.host_lives.proofs.laws.known_devices.Goals as goal

pub returns-clause-requests : goal.returns-clause-requests
returns-clause-requests c = known_device c.authentic.ensures.requests

pub returns-clause-sites : goal.returns-clause-sites
returns-clause-sites c = one_device

pub returns-clause-records : goal.returns-clause-records
returns-clause-records c = recorded_device c.authentic.ensures.requests c.one_list.ensures

pub returns-clause-sample : goal.returns-clause-sample
returns-clause-sample c = known_device_sample
