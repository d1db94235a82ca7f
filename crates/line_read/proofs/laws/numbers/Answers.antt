use Rattle.line_read.proofs.SpelledWords.{read_number-decimal}
use Rattle.line_read.proofs.laws.numbers.Goals as goal

pub returns : goal.returns
returns c = read_number-decimal
