use Rattle.peer_tables.proofs.JournalLemmas.{history_law, log_law, span_law, version_law}
use Rattle.peer_tables.proofs.laws.parts.Goals as goal

pub returns : goal.returns
returns c = record { history = history_law; log = log_law; spans = span_law; versions = version_law }
