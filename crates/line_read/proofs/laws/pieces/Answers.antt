use Rattle.line_read.proofs.SpelledWords.{read_piece-piece_text}
use Rattle.line_read.proofs.laws.pieces.Goals as goal

pub returns : goal.returns
returns c = read_piece-piece_text
