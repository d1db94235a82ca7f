use Rattle.peer_core.proofs.RestoreLemmas.{one_fail_law, no_fail_law}
use Rattle.peer_core.proofs.laws.journal_fails.Goals as goal

pub returns : goal.returns
returns c = record { once = one_fail_law; nowhere = no_fail_law }
