use Rattle.std.proofs.Common.{rules, ◌∙◌, sym}
use Rattle.line_read.specs.Pieces.{read_piece}
use Rattle.line_read.proofs.Escapes.{unescaped_bytes-plain}
use Rattle.line_read.proofs.pieces.lent_piece.Goals as goal

pub returns-then-not-has_backslash : goal.returns-then-not-has_backslash
unfolding read_piece
returns-then-not-has_backslash c =
    rw (unescaped_bytes-plain c.args.word.now (sym c.has_backslash.ensures ∙ c.if-not-has_backslash.true)) (search rules)
