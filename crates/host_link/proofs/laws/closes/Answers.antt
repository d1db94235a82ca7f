use Rattle.host_link.proofs.ClosesToldApart.{server_code, reason, one_ending, all_endings}
use Rattle.host_link.proofs.laws.closes.Goals as goal

pub returns-clause-codes : goal.returns-clause-codes
returns-clause-codes c = server_code

pub returns-clause-words : goal.returns-clause-words
returns-clause-words c = reason

pub returns-clause-apart : goal.returns-clause-apart
returns-clause-apart c = one_ending

pub returns-clause-all : goal.returns-clause-all
returns-clause-all c = all_endings
