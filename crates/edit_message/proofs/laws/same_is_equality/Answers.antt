use Rattle.edit_message.proofs.SameMessages.{message_Decides}
use Rattle.edit_message.proofs.laws.same_is_equality.Goals as goal

pub returns : goal.returns
returns c = message_Decides
