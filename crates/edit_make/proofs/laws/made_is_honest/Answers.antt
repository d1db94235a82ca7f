use Rattle.edit_make.proofs.Alike.{made_honest_law}
use Rattle.edit_make.proofs.EditCounts.{made_edits}
use Rattle.edit_make.proofs.laws.made_is_honest.Goals as goal

pub returns : goal.returns
returns c = record { honest = made_honest_law; edits = made_edits }
