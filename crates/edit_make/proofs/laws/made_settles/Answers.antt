use Rattle.edit_make.proofs.Alike.{made_settled_law, made_alike_law, summary_alike_law}
use Rattle.edit_make.proofs.laws.made_settles.Goals as goal

pub returns : goal.returns
returns c = record { settled = made_settled_law; alike = made_alike_law c.same_sets.ensures; summary = summary_alike_law c.same_sets.ensures }
