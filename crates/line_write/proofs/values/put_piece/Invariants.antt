use Rattle.std.proofs.Common.{◌≡◌, ◌++◌, drop}
use Rattle.line_spelling.specs.Values.{piece_text}
use Rattle.line_write.proofs.values.put_piece.Given as goal

abbrev pub invariant-loop-b : goal.invariant-loop-b
invariant-loop-b l = l.line.items ++ piece_text (drop l.b-index l.piece) ≡ l.fn.line.items ++ piece_text l.piece
