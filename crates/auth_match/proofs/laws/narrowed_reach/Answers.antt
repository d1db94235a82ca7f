use Rattle.auth_match.proofs.VacuousChanges.{vacuous_law, narrowed_reach_law}
use Rattle.auth_match.proofs.laws.narrowed_reach.Goals as goal

pub returns-clause-vacuous : goal.returns-clause-vacuous
returns-clause-vacuous c = vacuous_law

pub returns-clause-reach : goal.returns-clause-reach
returns-clause-reach c = narrowed_reach_law
