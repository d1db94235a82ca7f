use Rattle.std.proofs.lemmas.Bool.Decides.{same_from_decides}
use Rattle.edit_message.proofs.SameMessages.{entry_Decides}
use Rattle.edit_message.proofs.message.Message.same.Goals as goal

pub returns-in-Admin-Admin-clause-test : goal.returns-in-Admin-Admin-clause-test
returns-in-Admin-Admin-clause-test c =
    let two = c.in-Admin-Admin in
    rw (two.is-0, two.is-1) (same_from_decides _ _ c.same.ensures (entry_Decides two.a two.b))
