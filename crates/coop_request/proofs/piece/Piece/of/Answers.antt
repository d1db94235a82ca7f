use Rattle.std.specs.Str.{IsUtf8}
use Rattle.std.proofs.Common.{subst}
use Rattle.coop_request.proofs.PieceRow.{of_char}
use Rattle.coop_request.proofs.piece.Piece.of.Goals as goal

pub from_known-requires : goal.from_known-requires
from_known-requires c = rw (c.as_bytes.ensures.value, c.encode_utf8-text.ensures.value) (of_char _ (subst IsUtf8 c.encode_utf8-text.ensures.value c.encode_utf8-text.utf8))
