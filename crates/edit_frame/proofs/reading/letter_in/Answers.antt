use Rattle.std.proofs.Common.{refl, subst}
use Rattle.std.specs.Str.{IsUtf8}
use Rattle.coop_request.proofs.PieceRow.{of_char}
use Rattle.edit_frame.proofs.reading.letter_in.Goals as goal

pub returns : goal.returns
returns c = rw (c.checked.ensures, c.as_bytes.ensures.value, c.encode_utf8-text.ensures.value, of_char _ (subst IsUtf8 c.encode_utf8-text.ensures.value c.encode_utf8-text.utf8)) refl
