use Rattle.host_lives.proofs.Closes.{closed_for_good, nothing_more}
use Rattle.host_lives.proofs.Records.{recorded_close}
use Rattle.host_lives.proofs.Samples.{closed_for_good_sample}
use Rattle.host_lives.proofs.laws.closed_for_good.Goals as goal

pub returns-clause-device : goal.returns-clause-device
returns-clause-device c = closed_for_good

pub returns-clause-requests : goal.returns-clause-requests
returns-clause-requests c = nothing_more c.authentic.ensures.requests

pub returns-clause-records : goal.returns-clause-records
returns-clause-records c = recorded_close

pub returns-clause-sample : goal.returns-clause-sample
returns-clause-sample c = closed_for_good_sample
