use Rattle.policy_book.proofs.SameNames.{names_Decides}
use Rattle.policy_book.proofs.lists.are_same_names.Goals as goal

pub returns : goal.returns
returns c = names_Decides c.args.names.now c.args.others.now c.eq.result c.eq.ensures
