use Rattle.policy_book.proofs.KeptLimits.{kept}
use Rattle.policy_book.proofs.laws.kept_limits.Goals as goal

pub returns-clause-kept : goal.returns-clause-kept
returns-clause-kept c = kept
