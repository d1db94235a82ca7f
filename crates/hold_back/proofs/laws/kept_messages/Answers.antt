use Rattle.hold_back.proofs.Holds.{messages_woken, messages_woken_at, messages_waiting}
use Rattle.hold_back.proofs.laws.kept_messages.Goals as goal

pub returns : goal.returns
returns c = record { woken = messages_woken; one = messages_woken_at; waiting = messages_waiting }
