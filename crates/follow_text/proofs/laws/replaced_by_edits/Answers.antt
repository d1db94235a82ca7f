use Rattle.follow_text.proofs.Edits.{replaced_by}
use Rattle.follow_text.proofs.laws.replaced_by_edits.Goals as goal

pub returns : goal.returns
returns c = replaced_by
