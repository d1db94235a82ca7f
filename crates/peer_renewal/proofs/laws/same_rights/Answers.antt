use Rattle.peer_renewal.proofs.RightLemmas.{same_coverage, same_rights, fresh_renewal}
use Rattle.peer_renewal.proofs.laws.same_rights.Goals as goal

pub returns : goal.returns
returns c = record { coverage = same_coverage; rights = same_rights; sample = fresh_renewal }
