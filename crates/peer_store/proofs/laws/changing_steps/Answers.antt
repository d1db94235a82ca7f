use Rattle.peer_store.proofs.Changes.{unchanged, quiet_where_same, looks_change_nothing}
use Rattle.peer_store.proofs.laws.changing_steps.Goals as goal

pub returns-clause-counts : goal.returns-clause-counts
returns-clause-counts c = λ p step. (unchanged p step, quiet_where_same p step)

pub returns-clause-looks : goal.returns-clause-looks
returns-clause-looks c = looks_change_nothing
