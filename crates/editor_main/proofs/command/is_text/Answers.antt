use Rattle.line_read.proofs.TextTests.{is_utf8-from_iff}
use Rattle.editor_main.proofs.command.is_text.Goals as goal

pub returns : goal.returns
returns c = is_utf8-from_iff _ _ c.is_utf8.ensures
