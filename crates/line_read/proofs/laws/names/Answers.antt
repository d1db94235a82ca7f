use Rattle.line_read.proofs.SpelledWords.{read_name-name_text}
use Rattle.line_read.proofs.laws.names.Goals as goal

pub returns : goal.returns
returns c = read_name-name_text
